-- What the code keeps beside bytes and controls, so that an access needs no search through the banks. No public call speaks of it.
pub mod Flat
pub mod Pages
