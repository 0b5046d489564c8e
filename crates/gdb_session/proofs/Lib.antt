mod Words
mod Coming
mod Dues
mod Kept
