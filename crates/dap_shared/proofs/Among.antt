-- A link's session stands among those of the others: what bars it, and what moves up.
use Rattle.std.proofs.Common.{◌≡◌, ℕ, Bool, true, false, List, [], ◌∷◌, ◌++◌, length, map, Option, Some, None, refl, ap, sym, subst, ◌∙◌}
use Rattle.std.specs.Prelude.{◌||◌, set}
use Rattle.std.specs.Global.{Vec}
use Rattle.std.proofs.lemmas.List.{length-map}
use Rattle.std.proofs.Math.Seq.{set-append_seam}
use Rattle.dap_msg.specs.declared.items.Item.{Item}
use Rattle.dap_accessed.specs.declared.setup.ServerSetup.{ServerSetup}
use Rattle.dap_accessed.specs.declared.phase.OpenFile.{OpenFile}
use Rattle.dap_accessed.specs.Standing.{Files}
use Rattle.dap_accessed.specs.Sessions.{SessionValue, IsOpenIn, asked_in, open_at}
use Rattle.dap_shared.specs.Sharing.{bars}
use Rattle.dap_shared.specs.Shared.{no_session}
use Rattle.dap_shared.specs.Inner.Beside.{IsSilentBeside, IsSilentBetween, MovesAmong, MovesBeside, ServesOrRefuses, gone_by, is_barred, session_moved_up}
use Rattle.dap_shared.specs.Inner.Held.{IsSilentAmong, MovesOn, session_at}
use Rattle.dap_shared.proofs.Changes.{or-true}

new-moved : (r : Option OpenFile) (own : ServerSetup) → session_moved_up r (no_session own) ≡ no_session own
new-moved None own = refl
new-moved (Some removed) own = refl

-- where there is no session nothing is barred
barred-by : (own : ServerSetup) (asked : OpenFile) (b a : List SessionValue) → is_barred (b ++ no_session own ∷ a) (Some asked) ≡ (is_barred b (Some asked) || is_barred a (Some asked))
barred-by own asked [] a = refl
barred-by own asked (x ∷ b) a =
    ap (λ (r : Bool). bars asked (open_at x.phase) || r) (barred-by own asked b a)
    ∙ by-or (bars asked (open_at x.phase)) (is_barred b (Some asked)) (is_barred a (Some asked))
  where
    by-or : (p q r : Bool) → (p || (q || r)) ≡ ((p || q) || r)
    by-or true q r = refl
    by-or false q r = refl

barred-among : (own : ServerSetup) (asked : Option OpenFile) (b a : List SessionValue) → is_barred (b ++ no_session own ∷ a) asked ≡ (is_barred b asked || is_barred a asked)
barred-among own None b a = refl
barred-among own (Some asked) b a = barred-by own asked b a

-- and nothing moves up there
moved-among : (own : ServerSetup) (r : Option OpenFile) (b a : List SessionValue) → map (session_moved_up r) (b ++ no_session own ∷ a) ≡ map (session_moved_up r) b ++ no_session own ∷ map (session_moved_up r) a
moved-among own r [] a = ap (λ (s : SessionValue). s ∷ map (session_moved_up r) a) (new-moved r own)
moved-among own r (x ∷ b) a = ap (λ (l : List SessionValue). session_moved_up r x ∷ l) (moved-among own r b a)

here : (own : ServerSetup) (b a : List SessionValue) (s : SessionValue) → session_at own (length b) (b ++ s ∷ a) ≡ s
here own [] a s = refl
here own (x ∷ b) a s = here own b a s

pub moves-on : (own : ServerSetup) (item : Item) (files files' : Files) (b a b' a' : List SessionValue) (s s' : SessionValue) (answers : Vec (Vec ℕ)) → MovesAmong item files b s a files' b' s' a' answers
    → MovesOn own (length b) item files (b ++ s ∷ a) files' (b' ++ s' ∷ a') answers
moves-on own item files files' b a b' a' s s' answers m =
    let r : Option OpenFile = gone_by (asked_in s.setup files s.phase item) files files' s.phase s'.phase in
    let many : length b' ≡ length b = ap (λ (l : List SessionValue). length l) m.first ∙ length-map b (session_moved_up r) in
    let moved : b' ++ no_session own ∷ a' ≡ map (session_moved_up r) (b ++ no_session own ∷ a) =
    ap (λ (l : List SessionValue). l ++ no_session own ∷ a') m.first
    ∙ ap (λ (l : List SessionValue). map (session_moved_up r) b ++ no_session own ∷ l) m.rest
    ∙ sym (moved-among own r b a) in
    let beside : MovesBeside item files (b ++ no_session own ∷ a) s files' (b' ++ no_session own ∷ a') s' answers = record {
      does = subst (λ (x : Bool). ServesOrRefuses x item files s files' s' answers) (sym (barred-among own (asked_in s.setup files s.phase item) b a)) m.does;
      moved = moved;
      there = m.there;
    } in
    record {
      others = b' ++ no_session own ∷ a';
      session = s';
      moves =
          subst (λ (l : List SessionValue). MovesBeside item files l (session_at own (length b) (b ++ s ∷ a)) files' (b' ++ no_session own ∷ a') s' answers) (sym (set-append_seam b s a (no_session own)))
          (subst (λ (t : SessionValue). MovesBeside item files (b ++ no_session own ∷ a) t files' (b' ++ no_session own ∷ a') s' answers) (sym (here own b a s)) beside);
      back =
          sym (ap (λ (n : ℕ). set (b' ++ no_session own ∷ a') n s') (sym many)
          ∙ set-append_seam b' (no_session own) a' s');
    }

-- an item that takes no memory on a link among all takes none between those before it and those after it
pub silent-between : (own : ServerSetup) (item : Item) (files : Files) (link : ℕ) (l b a : List SessionValue) (s : SessionValue) → l ≡ b ++ s ∷ a → length b ≡ link → IsSilentAmong own link item files l → IsSilentBetween item files b s a
silent-between own item files link l b a s whole many silent =
    let at : IsSilentAmong own (length b) item files (b ++ s ∷ a) =
    subst (λ (n : ℕ). IsSilentAmong own n item files (b ++ s ∷ a)) (sym many) (subst (λ (k : List SessionValue). IsSilentAmong own link item files k) whole silent) in
    let mine : IsSilentBeside (is_barred (set (b ++ s ∷ a) (length b) (no_session own)) (asked_in s.setup files s.phase item)) item files s =
    subst (λ (t : SessionValue). IsSilentBeside (is_barred (set (b ++ s ∷ a) (length b) (no_session own)) (asked_in t.setup files t.phase item)) item files t) (here own b a s) at in
    subst (λ (x : Bool). IsSilentBeside x item files s)
    (ap (λ (k : List SessionValue). is_barred k (asked_in s.setup files s.phase item)) (set-append_seam b s a (no_session own))
    ∙ barred-among own (asked_in s.setup files s.phase item) b a) mine

-- what is asked for is barred by one of those before it, or of those after it
pub barred-first : (b a : List SessionValue) (asked is : Option OpenFile) → asked ≡ is → is_barred b asked ≡ true → (is_barred b is || is_barred a is) ≡ true
barred-first b a asked is same barred = ap (λ (r : Bool). r || is_barred a is) (ap (is_barred b) (sym same) ∙ barred)

pub barred-rest : (b a : List SessionValue) (asked is : Option OpenFile) → asked ≡ is → is_barred a asked ≡ true → (is_barred b is || is_barred a is) ≡ true
barred-rest b a asked is same barred = ap (λ (r : Bool). is_barred b is || r) (ap (is_barred a) (sym same) ∙ barred) ∙ or-true (is_barred b is)

-- what is open on a link that is there, whatever stands for one that isn't
pub among-at : (files : Files) (link : ℕ) (b : List SessionValue) (s : SessionValue) (a : List SessionValue) → length b ≡ link → ((own : ServerSetup) → IsOpenIn files (session_at own link (b ++ s ∷ a)).phase) → IsOpenIn files s.phase
among-at files link b s a many held =
    subst (λ (t : SessionValue). IsOpenIn files t.phase) (here s.setup b a s)
    (subst (λ (n : ℕ). IsOpenIn files (session_at s.setup n (b ++ s ∷ a)).phase) (sym many) (held s.setup))
