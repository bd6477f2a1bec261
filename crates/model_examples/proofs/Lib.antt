pub mod NoCode
pub mod Keeper
pub mod Scenes
pub mod Story
mod Unfitting
mod Refusals
mod Addition
mod StoryHistories
mod Preparing
mod FreshCalls
mod ShortCalls
mod Callers
pub mod ImportCalls
mod SliceCalls
mod TenantCalls
mod Shadowing
