mod SpaceLaws
mod DecimalLaws
mod WayLaws
mod FaultLaws
