mod HeadlineLemmas
mod KeptLemmas
mod ListLemmas
mod LoadingLemmas
