-- Laws about the definitions of specs/.
pub mod LimitLaws
pub mod CauseLaws
pub mod PlainBytes
pub mod SpellingLaws
pub mod SpanLaws
