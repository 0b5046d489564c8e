-- How a listing is sent on page by page. No public clause speaks of it.
pub mod Pages
