pub mod TwoUnitKept
