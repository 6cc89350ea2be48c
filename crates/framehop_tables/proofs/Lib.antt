pub mod AttemptLaws
pub mod ByPartsLaws
pub mod IndexLaws
pub mod PartsRowLaws
pub mod RoomLaws
pub mod RowLaws
