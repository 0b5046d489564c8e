mod Words
pub mod AddressLaws
pub mod Again
pub mod ArmRead
pub mod ArmRows
pub mod ArmRowsData
pub mod ArmRowsTransfers
pub mod ArmStems
pub mod NameLaws
pub mod PlainLaws
pub mod ReadBack
mod Rotations
pub mod StartLaws
pub mod ThumbRows
pub mod ThumbRowsAgain
pub mod ThumbRowsTransfers
pub mod ThumbStems
pub mod UnreadArm
pub mod UnreadBits
pub mod UnreadRows
pub mod UnreadThumb
