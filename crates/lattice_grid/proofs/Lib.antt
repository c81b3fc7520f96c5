mod Differences
mod Lists
mod RailsLaws
mod PairsLaws
mod RisingLaws
mod PathLaws
mod FindLaws
mod ToldLaws
mod RealiseLaws
mod StartLaws
mod ColumnsLaws
mod NeighbourLaws
mod DrawnLaws
mod RepeatLaws
pub mod Tools
