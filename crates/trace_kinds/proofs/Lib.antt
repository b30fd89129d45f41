pub mod RecordKindLaws
pub mod ByteLaws
