mod PartPlaces
mod Merging
mod ItemOrders
mod PartRests
mod Cutting
mod PartRanges
