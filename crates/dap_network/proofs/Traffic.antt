-- What passed on a link, after one event more.
use Rattle.std.proofs.Common.{◌≡◌, ◌≢◌, ℕ, Bool, List, [], ◌∷◌, ◌++◌, refl, ap, sym, ◌∙◌, append_assoc, eq-eqb}
use Rattle.std.specs.Prelude.{◌==◌, if◌then◌else◌}
use Rattle.std.proofs.lemmas.Bool.{ne_eqb}
use Rattle.dap_end.specs.Headline.{Arrival, WrittenPacket}
use Rattle.dap_network.specs.Happening.{GotFile, GotRecord, GotLink, LostLink, LostFile, NodeEvent, PacketCame, Continued, WroteAgain, all_came, all_written, came_since, wrote_since}

pub came_more : (link : ℕ) (before : List Arrival) (xs ys : List NodeEvent) → came_since link before (xs ++ ys) ≡ came_since link (came_since link before xs) ys
came_more link before [] ys = refl
came_more link before (PacketCame other c ∷ xs) ys = came_more link (if other == link then before ++ c ∷ [] else before) xs ys
came_more link before (GotLink other setup most ∷ xs) ys = came_more link (if other == link then [] else before) xs ys
came_more link before (LostLink other ∷ xs) ys = came_more link (if other == link then [] else before) xs ys
came_more link before (Continued other wrote ∷ xs) ys = came_more link before xs ys
came_more link before (WroteAgain other index w ∷ xs) ys = came_more link before xs ys
came_more link before (GotFile name shape ∷ xs) ys = came_more link before xs ys
came_more link before (GotRecord at number body ∷ xs) ys = came_more link before xs ys
came_more link before (LostFile at ∷ xs) ys = came_more link before xs ys

pub wrote_more : (link : ℕ) (before : List WrittenPacket) (xs ys : List NodeEvent) → wrote_since link before (xs ++ ys) ≡ wrote_since link (wrote_since link before xs) ys
wrote_more link before [] ys = refl
wrote_more link before (PacketCame other c ∷ xs) ys = wrote_more link before xs ys
wrote_more link before (GotLink other setup most ∷ xs) ys = wrote_more link (if other == link then [] else before) xs ys
wrote_more link before (LostLink other ∷ xs) ys = wrote_more link (if other == link then [] else before) xs ys
wrote_more link before (Continued other wrote ∷ xs) ys = wrote_more link (if other == link then before ++ wrote else before) xs ys
wrote_more link before (WroteAgain other index w ∷ xs) ys = wrote_more link (if other == link then before ++ w ∷ [] else before) xs ys
wrote_more link before (GotFile name shape ∷ xs) ys = wrote_more link before xs ys
wrote_more link before (GotRecord at number body ∷ xs) ys = wrote_more link before xs ys
wrote_more link before (LostFile at ∷ xs) ys = wrote_more link before xs ys

-- the event is of this link, or of another
pub of_it : {A : Type 0} (link : ℕ) (this that : A) → (if link == link then this else that) ≡ this
of_it link this that = ap (λ (t : Bool). if t then this else that) (eq-eqb link link refl)

pub of_another : {A : Type 0} (link other : ℕ) (this that : A) → link ≢ other → (if other == link then this else that) ≡ that
of_another link other this that d = ap (λ (t : Bool). if t then this else that) (ne_eqb other link (λ e. d (sym e)))

-- ---- On all links.

pub all_came_more : (xs ys : List NodeEvent) → all_came (xs ++ ys) ≡ all_came xs ++ all_came ys
all_came_more [] ys = refl
all_came_more (PacketCame link c ∷ xs) ys = ap (λ (l : List (List ℕ)). c.1 ∷ l) (all_came_more xs ys)
all_came_more (Continued link wrote ∷ xs) ys = all_came_more xs ys
all_came_more (WroteAgain link index w ∷ xs) ys = all_came_more xs ys
all_came_more (GotLink link setup most ∷ xs) ys = all_came_more xs ys
all_came_more (LostLink link ∷ xs) ys = all_came_more xs ys
all_came_more (GotFile name shape ∷ xs) ys = all_came_more xs ys
all_came_more (GotRecord at number body ∷ xs) ys = all_came_more xs ys
all_came_more (LostFile at ∷ xs) ys = all_came_more xs ys

pub all_written_more : (xs ys : List NodeEvent) → all_written (xs ++ ys) ≡ all_written xs ++ all_written ys
all_written_more [] ys = refl
all_written_more (PacketCame link c ∷ xs) ys = all_written_more xs ys
all_written_more (Continued link wrote ∷ xs) ys = ap (λ (l : List WrittenPacket). wrote ++ l) (all_written_more xs ys) ∙ sym (append_assoc wrote (all_written xs) (all_written ys))
all_written_more (WroteAgain link index w ∷ xs) ys = ap (λ (l : List WrittenPacket). w ∷ l) (all_written_more xs ys)
all_written_more (GotLink link setup most ∷ xs) ys = all_written_more xs ys
all_written_more (LostLink link ∷ xs) ys = all_written_more xs ys
all_written_more (GotFile name shape ∷ xs) ys = all_written_more xs ys
all_written_more (GotRecord at number body ∷ xs) ys = all_written_more xs ys
all_written_more (LostFile at ∷ xs) ys = all_written_more xs ys
