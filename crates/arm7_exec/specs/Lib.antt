pub mod Arm7
