pub mod NewRows
pub mod Places
pub mod RecordsLeft
pub mod Results
pub mod Texts
pub mod WrittenText
