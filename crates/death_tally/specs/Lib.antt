pub mod LastDeaths
pub mod TallyFields
pub mod DeathList
pub mod PermanentFailure
