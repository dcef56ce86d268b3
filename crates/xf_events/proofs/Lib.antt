pub mod AskLaws
mod HandlerLaws
mod InnerLaws
mod NoteSizes
mod OriginLaws
