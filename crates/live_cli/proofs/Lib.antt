mod FirstLemmas
mod GivenLemmas
mod RunLemmas
