mod Passing
mod Growth
mod Shown
mod Starting
