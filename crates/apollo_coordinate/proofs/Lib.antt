mod FormatLemmas
mod GrammarLemmas
mod LookupEquality
mod MarkLemmas
mod RefusalLemmas
mod TextLemmas
