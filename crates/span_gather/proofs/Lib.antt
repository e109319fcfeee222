mod InPlace
mod InThreads
mod JoinedParts
mod Crosses
