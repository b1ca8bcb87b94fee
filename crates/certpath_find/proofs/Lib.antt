pub mod Answering
mod AnsweringAll
mod KeyIdFacts
mod ValueFacts
