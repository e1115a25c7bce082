-- What only the contracts of the tests cite.
pub mod Lists
