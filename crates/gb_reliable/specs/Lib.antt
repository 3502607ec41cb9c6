pub mod Rules
pub mod LazyLemmas
pub mod EagerLemmas
