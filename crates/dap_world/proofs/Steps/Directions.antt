-- What is true of a direction stays so.
use Rattle.std.proofs.Common.{◌≡◌, ℕ, zero, suc, ◌+◌, ◌≤◌, ◌<◌, arith, refl, true, false, Bool, subst}
use Rattle.std.specs.Prelude.{max, nat_lt, ◌==◌, ◌&&◌, List, [], ◌∷◌, ◌++◌, Option, Some, None, if◌then◌else◌, slice_get}
use Rattle.dap_msg.specs.Blocked.{NspMessage}
use Rattle.nsp_link.specs.Holding.{closed_up}
use Rattle.std.specs.declared.cmp.Ordering.TheVariants.{Less, Equal, Greater}
use Rattle.std.specs.Ordering.{match_ordering, nat_cmp}
use Rattle.std.specs.BTreeSet.{insert_key}
use Rattle.nsp_link.specs.Limits.{max_segments}
use Rattle.dap_world.specs.Machine.{Sending, segments_of, taken_and_held}
use Rattle.dap_world.specs.Inner.Worlds.{WasSent, AreTrue, AreEarly, IsDirection}

pub segments_of-append : (seg : ℕ) (xs ys : List NspMessage) → segments_of seg (xs ++ ys) ≡ segments_of seg xs + segments_of seg ys
segments_of-append seg [] ys = omega arith
segments_of-append seg (x ∷ xs) ys = omega (arith, segments_of-append seg xs ys)

pub WasSent-more : (k : Option ℕ) (m n : ℕ) → m ≤ n → WasSent m k → WasSent n k
WasSent-more None m n le h = tt
WasSent-more (Some k) m n le h = (h.0, omega (arith, h.1))

pub AreTrue-more : (wire : List Sending) (m n r t : ℕ) → m ≤ n → r ≤ t → AreTrue m r wire → AreTrue n t wire
AreTrue-more [] m n r t le le' h = tt
AreTrue-more (p ∷ wire) m n r t le le' h = (WasSent-more p.segment m n le h.0, omega (arith, h.1), AreTrue-more wire m n r t le le' h.2)

pub AreTrue-append : (wire : List Sending) (p : Sending) (n t : ℕ) → AreTrue n t wire → WasSent n p.segment → p.acks ≤ t → AreTrue n t (wire ++ p ∷ [])
AreTrue-append [] p n t h a b = (a, b, tt)
AreTrue-append (q ∷ wire) p n t h a b = (h.0, h.1, AreTrue-append wire p n t h.2 a b)

pub AreTrue-at : (wire : List Sending) (j : ℕ) (p : Sending) (n t : ℕ) → AreTrue n t wire → slice_get wire j ≡ Some p → WasSent n p.segment × (p.acks ≤ t)
AreTrue-at [] j p n t h e = let no : ⊥ = cc in absurd no
AreTrue-at (q ∷ wire) zero p n t h e = let same : q ≡ p = cc in subst (λ (x : Sending). WasSent n x.segment × (x.acks ≤ t)) same (h.0, h.1)
AreTrue-at (q ∷ wire) (suc j) p n t h e = AreTrue-at wire j p n t h.2 e

pub AreEarly-more : (held : List ℕ) (low m n : ℕ) → m ≤ n → AreEarly low m held → AreEarly low n held
AreEarly-more [] low m n le h = tt
AreEarly-more (k ∷ held) low m n le h = (h.0, omega (arith, h.1), AreEarly-more held k m n le h.2)

-- what is taken in was sent, and what is left is early
pub closed : (held : List ℕ) (r sent : ℕ) → r ≤ sent → AreEarly r sent held
    → (r ≤ (closed_up r held).0) × ((closed_up r held).0 ≤ sent) × AreEarly ((closed_up r held).0 + 1) sent (closed_up r held).1
unfolding closed_up
closed [] r sent le h = (omega arith, le, tt)
closed (k ∷ held) r sent le h =
    elim (k == r + 1) as (λ b. (k == r + 1) ≡ b → (r ≤ (if b then closed_up k held else (r, k ∷ held)).0) × ((if b then closed_up k held else (r, k ∷ held)).0 ≤ sent)
    × AreEarly ((if b then closed_up k held else (r, k ∷ held)).0 + 1) sent (if b then closed_up k held else (r, k ∷ held)).1) [
      | true ↦ λ e. let rest = closed held k sent h.1 h.2 in (omega (arith, h.0, rest.0), rest.1, rest.2)
      | false ↦ λ e. (omega arith, le, (grind (arith, e, h.0), h.1, h.2))
    ] refl

pub AreEarly-with : (held : List ℕ) (k low sent : ℕ) → low < k → k ≤ sent → AreEarly low sent held → AreEarly low sent (insert_key nat_cmp held k)
AreEarly-with [] k low sent a b h = (a, b, tt)
AreEarly-with (n ∷ held) k low sent a b h =
    elim (nat_lt k n) as (λ v. nat_lt k n ≡ v → AreEarly low sent (match_ordering (if v then Less else (if k == n then Equal else Greater)) (k ∷ n ∷ held) (n ∷ held) (n ∷ insert_key nat_cmp held k))) [
      | true ↦ λ e. (a, b, (grind (arith, e), h.1, h.2))
      | false ↦ λ e. elim (k == n) as (λ w. (k == n) ≡ w → AreEarly low sent (match_ordering (if w then Equal else Greater) (k ∷ n ∷ held) (n ∷ held) (n ∷ insert_key nat_cmp held k))) [
        | true ↦ λ e'. h
        | false ↦ λ e'. (h.0, h.1, AreEarly-with held k n sent (grind (arith, e, e')) b h.2)
      ] refl
    ] refl

module _ (window there sent acked taken : ℕ) (held : List ℕ) (back : ℕ) (wire : List Sending) (h : IsDirection window there sent acked taken held back wire) where
  -- more segments are there
  pub kept-there : (more : ℕ) → there ≤ more → more ≤ max_segments → IsDirection window more sent acked taken held back wire
  kept-there more le few =
      record {
        counts = record { acked_taken = h.counts.acked_taken; taken_sent = h.counts.taken_sent; within_window = h.counts.within_window; sent_there = omega (arith, h.counts.sent_there); few = few };
        early = h.early;
        wire = h.wire;
      }

  -- a packet is written
  pub kept-writes : (all : ℕ) (p : Sending) → sent ≤ all → all ≤ acked + window → all ≤ there → WasSent all p.segment → p.acks ≤ back → IsDirection window there all acked taken held back (wire ++ p ∷ [])
  kept-writes all p le within room was acks =
      record {
        counts = record { acked_taken = h.counts.acked_taken; taken_sent = omega (arith, h.counts.taken_sent); within_window = within; sent_there = room; few = h.counts.few };
        early = AreEarly-more held (taken + 1) sent all le h.early;
        wire = AreTrue-append wire p all back (AreTrue-more wire sent all back back le (omega arith) h.wire) was acks;
      }

  -- an acknowledgement comes, and the end takes more
  pub kept-acked : (a more : ℕ) → a ≤ taken → back ≤ more → IsDirection window there sent (max acked a) taken held more wire
  kept-acked a more le grew =
      record {
        counts = record { acked_taken = omega (arith, h.counts.acked_taken); taken_sent = h.counts.taken_sent; within_window = omega (arith, h.counts.within_window); sent_there = h.counts.sent_there; few = h.counts.few };
        early = h.early;
        wire = AreTrue-more wire sent sent back more (omega arith) grew h.wire;
      }

  -- the other end took more, and holds these
  kept-taken : (more : ℕ) (early : List ℕ) → taken ≤ more → more ≤ sent → AreEarly (more + 1) sent early → IsDirection window there sent acked more early back wire
  kept-taken more early le most is =
      record {
        counts = record { acked_taken = omega (arith, h.counts.acked_taken); taken_sent = most; within_window = h.counts.within_window; sent_there = h.counts.sent_there; few = h.counts.few };
        early = is;
        wire = h.wire;
      }

  -- a segment comes to the other end
  pub kept-came : (keep : Bool) (segment : Option ℕ) → WasSent sent segment
      → IsDirection window there sent acked (taken_and_held keep taken held segment).0 (taken_and_held keep taken held segment).1 back wire × (taken ≤ (taken_and_held keep taken held segment).0)
  kept-came keep None was = (h, omega arith)
  kept-came keep (Some k) was =
      elim (k == taken + 1) as (λ b. (k == taken + 1) ≡ b →
      let new : ℕ × List ℕ = (if b then closed_up k held else (taken, if nat_lt taken k && keep then insert_key nat_cmp held k else held)) in
      IsDirection window there sent acked new.0 new.1 back wire × (taken ≤ new.0)) [
        | true ↦ λ e.
            let c = closed held k sent was.1 (subst (λ (n : ℕ). AreEarly n sent held) (grind (arith, e)) h.early) in
            let le : taken ≤ (closed_up k held).0 = grind (arith, e, c.0) in
            (kept-taken (closed_up k held).0 (closed_up k held).1 le c.1 c.2, le)
        | false ↦ λ e. elim (nat_lt taken k && keep) as (λ b. (nat_lt taken k && keep) ≡ b → IsDirection window there sent acked taken (if b then insert_key nat_cmp held k else held) back wire × (taken ≤ taken)) [
          | true ↦ λ e'. (kept-taken taken (insert_key nat_cmp held k) (omega arith) h.counts.taken_sent (AreEarly-with held k (taken + 1) sent (grind (arith, e, e')) was.1 h.early), omega arith)
          | false ↦ λ e'. (h, omega arith)
        ] refl
      ] refl
