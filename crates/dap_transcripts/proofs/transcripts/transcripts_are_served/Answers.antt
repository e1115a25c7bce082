use Rattle.std.proofs.Common.{◌≡◌, ◌≢◌, ℕ, refl, sym, ◌∙◌, subst, ap, Bool, List, [], ◌∷◌, ◌++◌}
use Rattle.std.specs.Prelude.{◌==◌, Option, Some}
use Rattle.std.specs.List.{AllByRecursion, IsDistinct}
use Rattle.std.specs.Io.BufRead.{drop_through, first_line}
use Rattle.std.proofs.lemmas.List.{map-append}
use Rattle.linewise.specs.declared.talking.Became.{Became}
use Rattle.linewise.specs.declared.talking.Became.TheVariants.{NoMemory}
use Rattle.linewise.specs.Talks.{AnswersInput, no_line_more, one_line_more}
use Rattle.nsp_link.specs.declared.link.LinkSetup.{LinkSetup}
use Rattle.dap_accessed.specs.Apart.{NamesAreApart}
use Rattle.dap_accessed.specs.declared.setup.Names.{Names}
use Rattle.dap_accessed.specs.declared.setup.ServerSetup.{ServerSetup}
use Rattle.dap_accessed.proofs.ForCallers.{no-files}
use Rattle.dap_end.specs.Headline.{WrittenPacket, written_bytes}
use Rattle.dap_end.specs.Node.{NodeValue}
use Rattle.dap_network.specs.Happening.{NodeEvent, NodeRuns, all_written}
use Rattle.dap_network.proofs.ForCallers.{all_written_more, runs_join}
use Rattle.dap_live.specs.declared.node.Node.{Node}
use Rattle.dap_live.specs.Node.{IsNewNode, answered, is_alone, waiting}
use Rattle.dap_transcripts.specs.Transcripts.{AreSome, HappensByLine, LineHappened, LinesHappened, no_line_happened, one_line_happened}
use Rattle.dap_transcripts.proofs.Speaking.{Speaks, speaks_all, speaks_both, speaks_none}
use Rattle.dap_transcripts.proofs.Talking.{Answered, all_front, by_line, runs_length, some_both, started}
use Rattle.dap_transcripts.proofs.transcripts.transcripts_are_served.Goals as goal

record Talked (alone : Bool) (input rest : List ℕ) (old new : NodeValue) (text : List ℕ) (lines : List (Option Became)) : Type 0 where
  events : List NodeEvent
  runs : NodeRuns old events new
  by_line : HappensByLine alone old input new rest text lines events
  packets : List (List ℕ)
  speaks : Speaks text packets
  are_some : AreSome packets (written_bytes (all_written events))
  are_all : AllByRecursion (λ became. became ≢ Some NoMemory) lines → packets ≡ written_bytes (all_written events)

bytes_both : (xs ys : List NodeEvent) → written_bytes (all_written (xs ++ ys)) ≡ written_bytes (all_written xs) ++ written_bytes (all_written ys)
bytes_both xs ys = ap written_bytes (all_written_more xs ys) ∙ map-append (λ (w : WrittenPacket). w.bytes) (all_written xs) (all_written ys)

line_happened : (alone : Bool) (rest : List ℕ) (old new : NodeValue) (said : List ℕ) (became : Option Became) (a : Answered alone rest old new said became) → LineHappened alone (first_line rest) old new said became a.events
line_happened alone rest old new said became a =
    record { runs = a.runs; came = a.heard; packets = a.packets; said = speaks_all said a.packets a.speaks; are_some = a.are_some; are_all = a.are_all }

talk_more : (alone : Bool) (input rest said more : List ℕ) (lines : List (Option Became)) (became : Option Became) (old mid new : NodeValue) → Talked alone input rest old mid said lines → Answered alone rest mid new more became
    → Talked alone input (drop_through 10 rest) old new (said ++ more) (lines ++ became ∷ [])
talk_more alone input rest said more lines became old mid new t a =
    record {
      events = t.events ++ a.events;
      runs = runs_join t.events a.events old mid new t.runs a.runs;
      by_line = one_line_happened mid rest said more lines became t.events a.events t.by_line (line_happened alone rest mid new more became a);
      packets = t.packets ++ a.packets;
      speaks = speaks_both said more t.packets a.packets t.speaks a.speaks;
      are_some = subst (AreSome (t.packets ++ a.packets)) (sym (bytes_both t.events a.events)) (some_both t.packets (written_bytes (all_written t.events)) a.packets (written_bytes (all_written a.events)) t.are_some a.are_some);
      are_all = λ all. (let split = all_front (λ (x : Option Became). x ≢ Some NoMemory) lines became all in
          ap (λ (l : List (List ℕ)). l ++ a.packets) (t.are_all split.0) ∙ ap (λ (l : List (List ℕ)). written_bytes (all_written t.events) ++ l) (a.are_all split.1) ∙ sym (bytes_both t.events a.events));
    }

talked : (one new : Node) (input rest text : List ℕ) (lines : List (Option Became)) → AnswersInput answered waiting one input new rest text lines → Talked (is_alone one.node) input rest one.node new.node text lines
talked one new input rest text lines no_line_more =
    record { events = []; runs = refl; by_line = no_line_happened; packets = []; speaks = speaks_none; are_some = tt; are_all = λ all. refl }
talked one new input _ _ _ (one_line_more now rest said more lines became before some says) =
    let t = talked one now input rest said lines before in
    let same : is_alone one.node ≡ is_alone now.node = ap (λ (n : ℕ). n == 1) (sym (runs_length t.events one.node now.node t.runs)) in
    talk_more (is_alone one.node) input rest said more lines became one.node now.node new.node t (by_line (is_alone one.node) rest now new says.text more became same says.answers says.says)

lines_happened : (own : ServerSetup) (links most : ℕ) (usual : LinkSetup) (one new : Node) (input rest text : List ℕ) (lines : List (Option Became)) → IsNewNode own links usual most one
    → AnswersInput answered waiting one input new rest text lines → LinesHappened one input rest text lines new
lines_happened own links most usual one new input rest text lines n talk =
    let s = started own links most usual one (links == 1) refl n in
    let t = talked one new input rest text lines talk in
    record {
      base = s.base;
      is_new = s.is_new;
      begun = s.events;
      begins = s.runs;
      none_came = s.none_came;
      none_written = s.none_written;
      events = t.events;
      by_line = t.by_line;
      runs = runs_join s.events t.events s.base one.node new.node s.runs t.runs;
      packets = t.packets;
      said = speaks_all text t.packets t.speaks;
      are_some = t.are_some;
      are_all = t.are_all;
    }

pub returns-clause-happened : goal.returns-clause-happened
returns-clause-happened c = λ own links most usual one new input rest text lines n talk. lines_happened own links most usual one new input rest text lines n talk

no_names : (names : Names) → NamesAreApart names []
unfolding IsDistinct
no_names names = tt

pub returns-clause-served : goal.returns-clause-served
returns-clause-served c = λ own links most usual one new input rest text lines n talk.
    let law = c.any_peers_are_served.ensures in
    let h = lines_happened own links most usual one new input rest text lines n talk in
    let s = law.at_last [] (h.begun ++ h.events) h.base new.node h.is_new h.runs in
    (h, s, law.along [] (h.begun ++ h.events) h.base new.node h.is_new h.runs, s.files_sound no-files, s.names_apart (no_names new.node.noted.shared.setup.names))
