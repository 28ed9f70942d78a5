pub mod Choices
pub mod FileContents
pub mod Grown
pub mod OptionLists
pub mod Parts
pub mod StepsStay
pub mod StepsWithin
pub mod WrittenFiles
