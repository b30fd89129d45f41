pub mod MonitorLaws
pub mod ChangeLaws
pub mod SlotLaws
