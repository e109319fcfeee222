mod Directories
mod Ending
mod LastJoin
mod KeptRows
mod Running
mod EnoughAdded
mod Fronts
mod LentDirectories
