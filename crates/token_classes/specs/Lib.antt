pub mod SpanWords
