pub mod Callback
pub mod CallbackLaws
pub mod FrameAddress
pub mod PopLists
pub mod PopListViews
pub mod Registers
pub mod RegistersAarch64
