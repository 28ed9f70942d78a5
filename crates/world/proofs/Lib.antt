mod Elements
mod Growing
mod Keeping
mod Next
mod Doing
