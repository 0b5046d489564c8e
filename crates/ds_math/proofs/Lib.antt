pub mod Results
pub mod RootLaws
pub mod SavedLaws
