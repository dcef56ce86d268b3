mod DetailLemmas
mod TextLemmas
