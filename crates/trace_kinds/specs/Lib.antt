pub mod RecordKind
