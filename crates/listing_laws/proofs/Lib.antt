mod JoiningLemmas
mod CutLemmas
