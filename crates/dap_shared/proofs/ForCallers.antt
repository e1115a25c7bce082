-- What the crates above may cite of this one's proofs. No other file here is for them.

-- after one event more
pub use Rattle.dap_shared.proofs.Stepping.{all-more}
-- one item more adds its answers on its link, and none on the others; nor does a file that is dropped
pub use Rattle.dap_shared.proofs.Growing.{answers-grow, answers-stay, answers-dropped}
-- what each link's exchange has in any history; a new exchange stays so where a file is dropped, and stands among others
pub use Rattle.dap_shared.proofs.Events.{IsShared, history-shares, new-stays, one-new}
-- the files of a node are those of its history, at first and where a link begins
pub use Rattle.dap_shared.proofs.Stepping.{begins-shared, new-shared}
