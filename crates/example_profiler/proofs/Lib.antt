mod Calls
mod FrameLaws
mod Held
mod MoveLaws
mod ProcessLaws
mod StillCallback
