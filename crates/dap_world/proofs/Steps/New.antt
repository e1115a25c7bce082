-- A new world.
use Rattle.std.proofs.Common.{◌≡◌, ℕ, ◌≤◌, max, arith, refl, sym, ◌∙◌, subst, ap, List, [], inl}
use Rattle.dap_accessed.specs.Present as accessed
use Rattle.dap_accessing.specs.Present as accessing
use Rattle.nsp_link.specs.declared.link.LinkSetup.{LinkSetup}
use Rattle.nsp_link.proofs.ForCallers.{stands_new, sends_new}
use Rattle.dap_events.specs.declared.setup.WorldSetup.{WorldSetup}
use Rattle.dap_msg.specs.BothEnds.{min_buffer, plain_identity}
use Rattle.dap_accessed.specs.Setup.{plain_setup}
use Rattle.nsp_link.specs.Link.{IsSetup}
use Rattle.dap_world.specs.declared.side.Wired.{Wired}
use Rattle.dap_events.specs.declared.event.End.{End}
use Rattle.dap_events.specs.declared.event.End.TheVariants.{A, B}
use Rattle.dap_world.specs.Machine.{reports_by_a, initial_state, other_end}
use Rattle.dap_world.specs.Setups.{IsWorldSetup}
use Rattle.dap_end.specs.Ports.{PortValue, new_port}
use Rattle.dap_end.specs.Asking.{HasAsked}
use Rattle.dap_end.specs.Done.{AskingValue, nothing_asked}
use Rattle.dap_end.specs.Serving.{IsAfter}
use Rattle.dap_end.specs.Done.{ServingValue, nothing_yet}
use Rattle.dap_world.specs.Inner.Setups.{link_setup_of}
use Rattle.dap_accessing.specs.Request.{Request}
use Rattle.dap_accessing.specs.declared.report.Report.{Report}
use Rattle.dap_world.specs.Wires.{end_address}
use Rattle.dap_world.specs.Inner.Worlds.{IsWorld}
use Rattle.dap_world.specs.Inner.Sides.{SideValue, side_of}
use Rattle.dap_world.specs.Inner.Parts.{Parts, AreParts, IsCarried, state_of}
use Rattle.dap_world.proofs.Steps.Counting.{cut-none}
use Rattle.dap_world.proofs.Headline.Kept.{is_fresh}

abbrev new_side : LinkSetup → SideValue
new_side s = side_of (new_port s) 0 []

twice : (end : End) → other_end (other_end end) ≡ end
twice A = refl
twice B = refl

told_none : (s : WorldSetup) (end : End) → IsWorldSetup s → IsCarried (new_side (link_setup_of s end)) (new_side (link_setup_of s (other_end end))) [] 0
told_none s end h =
    record {
      handed = [];
      posted = refl;
      gone = [];
      among = record { begun = []; rest = []; split = refl; handled = refl; offset_is = refl; stays = inl refl };
      way = record {
        size = omega (arith, h.some);
        running = refl;
        listening = refl;
        there = ap end_address (sym (twice end));
        back = refl;
        sends = sends_new (link_setup_of s end);
        stands = stands_new (link_setup_of s (other_end end)) s.seg_size [];
        short = λ k d lt. absurd (omega arith);
        few = omega (arith, cut-none s.seg_size);
        wire = tt;
      };
      bytes = refl;
      fit = tt;
      short = λ k d lt. absurd (omega arith);
    }

abbrev new_parts : WorldSetup → accessing.ClientState → accessed.Present → Parts
new_parts s asking serving =
    record { a = new_side (link_setup_of s A); b = new_side (link_setup_of s B); accessing = asking; accessed = serving; requests = []; sent = []; served = 0; reports = []; read = 0 }

-- the parts of a new world, by what its ends keep
made : (s : WorldSetup) (asking : accessing.ClientState) (serving : accessed.Present) → asking.own ≡ s.bufsiz_a → serving.own ≡ s.bufsiz_b → state_of (new_parts s asking serving) ≡ initial_state s
made s asking serving own_a own_b = ap (λ (n : ℕ). record (initial_state s) { own_a = n; own_b = serving.own }) own_a ∙ ap (λ (n : ℕ). record (initial_state s) { own_b = n }) own_b

new_world : (s : WorldSetup) (asking : accessing.ClientState) (serving : accessed.Present) → IsWorldSetup s → asking.own ≡ s.bufsiz_a → serving.own ≡ s.bufsiz_b
    → asking.identity ≡ plain_identity s.bufsiz_a → serving.setup ≡ plain_setup s.bufsiz_b
    → HasAsked nothing_asked (record { port = new_port (link_setup_of s A); present = asking }) → IsAfter (nothing_yet []) (record { port = new_port (link_setup_of s B); present = serving })
    → AreParts (new_parts s asking serving)
unfolding reports_by_a
new_world s asking serving h own_a own_b plain_a plain_b a b =
    record {
      world = subst IsWorld (sym (made s asking serving own_a own_b)) (is_fresh s h);
      plain_a = plain_a ∙ ap plain_identity (sym own_a);
      plain_b = plain_b ∙ ap plain_setup (sym own_b);
      alike = record { here = refl; there = refl; size = refl; window = refl; limit = refl };
      limit = ap (λ (n : ℕ). max n s.bufsiz_b) (sym own_a) ∙ ap (λ (n : ℕ). max asking.own n) (sym own_b);
      most = omega (arith, h.own_a.most, h.own_b.most);
      from_a = told_none s A h;
      from_b = told_none s B h;
      sent_is = refl;
      reports_is = refl;
      asking = (nothing_asked, a);
      serving = (nothing_yet [], b);
    }

pub new_sound : (s : WorldSetup) (v : AskingValue) (w : ServingValue) (wire_a wire_b : List Wired) (requests : List Request) (sent : List (List ℕ)) (reports : List Report)
    → wire_a ≡ [] → wire_b ≡ [] → requests ≡ [] → sent ≡ [] → reports ≡ [] → IsWorldSetup s
    → HasAsked nothing_asked v × (v.port ≡ new_port (link_setup_of s A)) × (v.present.own ≡ s.bufsiz_a) → IsAfter (nothing_yet []) w × (w.port ≡ new_port (link_setup_of s B)) × (w.present.own ≡ s.bufsiz_b)
    → v.present.identity ≡ plain_identity s.bufsiz_a → w.present.setup ≡ plain_setup s.bufsiz_b
    → (let p : Parts = record { a = side_of v.port 0 wire_a; b = side_of w.port 0 wire_b; accessing = v.present; accessed = w.present; requests = requests; sent = sent; served = 0; reports = reports; read = 0 } in
    AreParts p × (state_of p ≡ initial_state s))
new_sound s v w wire_a wire_b requests sent reports ea eb er es ep h x y plain_a plain_b =
    let asking = subst (λ (port : PortValue). HasAsked nothing_asked (record { port = port; present = v.present })) x.1 x.0 in
    let serving = subst (λ (port : PortValue). IsAfter (nothing_yet []) (record { port = port; present = w.present })) y.1 y.0 in
    let both : AreParts (new_parts s v.present w.present) × (state_of (new_parts s v.present w.present) ≡ initial_state s) =
    (new_world s v.present w.present h x.2 y.2 plain_a plain_b asking serving, made s v.present w.present x.2 y.2) in
    rw (x.1, y.1, ea, eb, er, es, ep) both

-- the sizes that a world may have, by those that a link may
pub world_setup : (s : WorldSetup) (end : End) → min_buffer ≤ s.bufsiz_a → min_buffer ≤ s.bufsiz_b → IsSetup (link_setup_of s end) → IsWorldSetup s
world_setup s end a b h =
    record {
      some = h.0;
      small = h.1;
      window = h.2;
      window_limit = h.3;
      own_a = record { least = a; most = omega (arith, h.5) };
      own_b = record { least = b; most = omega (arith, h.5) };
    }
