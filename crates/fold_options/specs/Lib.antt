pub mod ArgumentViews
pub mod Arguments
pub mod Names
pub mod Numbers
pub mod OptionViews
pub mod Options
pub mod Results
