-- What the end that asks does by a line, and says, follows from the end and the line, out of memory aside.
use Rattle.std.proofs.Common.{◌≡◌, ◌≢◌, ℕ, refl, sym, ◌∙◌, subst, ap, true, false, true≢false, List, [], ◌++◌, drop, length, inl, inr}
use Rattle.std.specs.Prelude.{MatchBool, ◌||◌, ◌&&◌, nat_lt, if◌then◌else◌, Bool, Option, Some, None, Result, Ok, Err}
use Rattle.std.specs.List.{flat_map}
use Rattle.hex.specs.Hex.{IsBytes as AreBytes}
use Rattle.dap_msg.specs.declared.items.Item.{Item}
use Rattle.dap_msg.specs.declared.message.Configuration.{Configuration}
use Rattle.nsp_link.specs.declared.link.Got.{Got}
use Rattle.nsp_link.specs.declared.link.LinkSetup.{LinkSetup}
use Rattle.nsp_link.specs.declared.fault.LinkFault.TheVariants.{Failed}
use Rattle.nsp_link.specs.Link.{IsSetup, SetupFault}
use Rattle.dap_accessing.specs.Request.{Request}
use Rattle.dap_accessing.specs.declared.request.Request.TheVariants.{Fetch}
use Rattle.dap_accessing.specs.declared.report.Report.{Report}
use Rattle.dap_accessing.specs.declared.fault.AskFault.{AskFault}
use Rattle.dap_accessing.specs.declared.fault.AskFault.TheVariants as ask
use Rattle.dap_accessing.specs.Phase.{IsAdmissible, IsRefused}
use Rattle.dap_accessing.specs.Present.{ClientState}
use Rattle.dap_accessing.specs.Calls.{AskRefused}
use Rattle.dap_accessing.specs.Each.{records_kept}
use Rattle.dap_accessing.proofs.ForCallers.{one_present}
use Rattle.dap_end.specs.declared.fault.TakeFault.{TakeFault}
use Rattle.dap_end.specs.declared.fault.TakeFault.TheVariants as take
use Rattle.dap_end.specs.Ports.{PortValue}
use Rattle.dap_end.specs.Asking.{HasAsked, AskedOne, HasDone}
use Rattle.dap_end.specs.Hearing.{hears}
use Rattle.dap_end.specs.Done.{AskingValue, ClientHistory, nothing_asked}
use Rattle.dap_end.specs.Turns.{TakesPacket, WentOn}
use Rattle.dap_end.proofs.ForCallers.{asked_history, has_sent, asking_one, going_alike, taking_alike}
use Rattle.linewise.specs.declared.talking.Became.{Became}
use Rattle.linewise.specs.declared.talking.Became.TheVariants.{Done, NoMemory}
use Rattle.linewise.specs.Talks.{HaveOneText}
use Rattle.linewise.proofs.ForCallers.{one_text}
use Rattle.dap_live.specs.declared.asking.Asking.{Asking}
use Rattle.dap_live.specs.declared.asking.Came.{Came}
use Rattle.dap_live.specs.declared.asking.Came.TheVariants.{Told, Untold}
use Rattle.dap_live.specs.declared.asking.Front.TheVariants as front
use Rattle.dap_live.specs.declared.orders.Between.{Between}
use Rattle.dap_live.specs.declared.ask_orders.AskOrder.{AskOrder}
use Rattle.dap_live.specs.declared.ask_orders.AskOrder.TheVariants as order
use Rattle.dap_live.specs.AskOrders.{ask_order_of}
use Rattle.dap_live.specs.Orders.{setup_anew}
use Rattle.dap_live.specs.Sending.{AllAgain, SaysAck, waits_of}
use Rattle.dap_live.specs.Texts.{ask_refusal, done_said, link_refusal, packets_text, reports_text, taken_said}
use Rattle.dap_live.specs.Each.{each_after, each_text, records_text, told_after, told_text, waits_told}
use Rattle.dap_live.specs.Asking.{ClientGoesOn, Resends, AsksNot, AnswersAsk, IsNewAsking, OnEnd, AskingDoes, DoesAll, DoesAskOrder, Ends, HearsPacket, TellsAlone, answered, begun, waiting, came_by, has_more}
use Rattle.dap_live.specs.Both.{DoneOr, LeavesEnd}
use Rattle.dap_live.specs.Inner.Saying.{front_text}
use Rattle.dap_live.specs.Inner.OneText.{AreSameAsking}
use Rattle.dap_live.proofs.OneLine.{Fits, line_fits, all_again, ack_one, taken_wants, setup_apart, setup_one, one_answer, stays_alike, gone_wants}

-- what became of a line
abbrev outcome : Came → Became
outcome (Told became) = became
outcome (Untold became) = became

outcome_by : (r : Result Got TakeFault) (b : Became) → outcome (came_by r b) ≡ b
outcome_by (Ok got) b = refl
outcome_by (Err (take.Refused f)) b = refl
outcome_by (Err (take.Unfinished got f)) b = refl

-- two ends that do the same from now on, with one text and one outcome
abbrev Two : (one two : Asking) → (said more : List ℕ) → (m n : Came) → Type 0
Two one two said more m n = AreSameAsking one two × (said ≡ more) × (m ≡ n)

stay : (old other one two : Asking) → AreSameAsking old other → one ≡ old → two ≡ other → AreSameAsking one two
stay = stays_alike AreSameAsking

-- what waits to be told, by the parts that it is of
abbrev told_by : Bool → (told : ℕ) → List Report → AskingValue → List ℕ
told_by is_each told reports end =
    if is_each then flat_map (each_text told) reports ++ records_text (drop told (records_kept end.present.pending)) else reports_text reports

told_one : (one two : Asking) → AreSameAsking one two → told_text one ≡ told_text two
told_one one two same =
    ap (λ (b : Bool). told_by b one.told one.reports.items one.end) same.4
    ∙ ap (λ (n : ℕ). told_by two.is_each n one.reports.items one.end) same.3
    ∙ ap (λ (l : List Report). told_by two.is_each two.told l one.end) same.2
    ∙ ap (λ (v : AskingValue). told_by two.is_each two.told two.reports.items v) same.0

-- the ends and their reports are one afterwards
on_end : (old other one two : Asking) → AreSameAsking old other → OnEnd old one → OnEnd other two → one.end ≡ two.end → one.reports.items ≡ two.reports.items → HasDone one.end → AreSameAsking one two
on_end old other one two same x y end reports d = (
  end,
  ap (λ (a : Asking). a.setup) x ∙ same.1 ∙ sym (ap (λ (a : Asking). a.setup) y),
  reports,
  ap (λ (a : Asking). a.told) x ∙ same.3 ∙ sym (ap (λ (a : Asking). a.told) y),
  ap (λ (a : Asking). a.is_each) x ∙ same.4 ∙ sym (ap (λ (a : Asking). a.is_each) y),
  d,
)

-- ---- A packet.

packet_one : (old other one two : Asking) (bytes said more : List ℕ) (m n : Came) → AreBytes bytes → AreSameAsking old other → outcome m ≢ NoMemory → outcome n ≢ NoMemory
    → HearsPacket old bytes one said m → HearsPacket other bytes two more n → Two one two said more m n
packet_one old other one two bytes said more m n fits same nm nn x y =
    let wx = taken_wants x.taken (told_text one) x.packets (λ e. nm (ap outcome x.ended ∙ outcome_by x.taken _ ∙ e)) in
    let wy = taken_wants y.taken (told_text two) y.packets (λ e. nn (ap outcome y.ended ∙ outcome_by y.taken _ ∙ e)) in
    let there : TakesPacket (hears old.reports.items two.reports.items) other.end two.end bytes [] y.packets y.taken =
    subst (λ (l : List Report). TakesPacket (hears l two.reports.items) other.end two.end bytes [] y.packets y.taken) (sym same.2) y.took in
    let t = taking_alike old.end other.end one.end two.end bytes x.taken y.taken [] x.packets y.packets old.reports.items one.reports.items two.reports.items fits same.5 same.0 wx wy x.took there in
    let now : AreSameAsking one two = on_end old other one two same x.rest y.rest t.0 t.3 t.4 in
    let same_said : taken_said x.taken (told_text one) x.packets ≡ taken_said y.taken (told_text two) y.packets =
    ap (λ (r : Result Got TakeFault). taken_said r (told_text one) x.packets) t.1 ∙ ap (taken_said y.taken (told_text one)) t.2
    ∙ ap (λ (l : List ℕ). taken_said y.taken l y.packets) (told_one one two now) in (
      now,
      x.says ∙ ap (λ k. k.0) same_said ∙ sym y.says,
      x.ended ∙ ap (λ (r : Result Got TakeFault). came_by r (taken_said x.taken (told_text one) x.packets).1) t.1 ∙ ap (λ k. came_by y.taken k.1) same_said ∙ sym y.ended,
    )

-- ---- Going on.

going_same : (old other : Asking) (front said more : List ℕ) (one two : Asking) (m n : Came) → AreSameAsking old other → outcome m ≢ NoMemory → outcome n ≢ NoMemory
    → ClientGoesOn old front one said m → ClientGoesOn other front two more n → Two one two said more m n
going_same old other front said more one two m n same nm nn x y =
    let wx = gone_wants x.gone (told_text one) x.packets (λ e. nm (ap outcome x.ended ∙ e)) in
    let wy = gone_wants y.gone (told_text two) y.packets (λ e. nn (ap outcome y.ended ∙ e)) in
    let there : WentOn (hears old.reports.items two.reports.items) other.end two.end [] y.packets y.gone =
    subst (λ (l : List Report). WentOn (hears l two.reports.items) other.end two.end [] y.packets y.gone) (sym same.2) y.went in
    let t = going_alike old.end other.end one.end two.end [] x.packets y.packets old.reports.items one.reports.items two.reports.items x.gone y.gone same.5 same.0 wx wy x.went there in
    let now : AreSameAsking one two = on_end old other one two same x.rest y.rest t.0 t.3 t.4 in
    let same_said : done_said (told_text one) x.packets x.gone ≡ done_said (told_text two) y.packets y.gone =
    ap (done_said (told_text one) x.packets) t.1 ∙ ap (λ (l : List (List ℕ)). done_said (told_text one) l y.gone) t.2
    ∙ ap (λ (l : List ℕ). done_said l y.packets y.gone) (told_one one two now) in (
      now,
      x.says ∙ ap (λ k. front ++ k.0) same_said ∙ sym y.says,
      x.ended ∙ ap (λ k. Told k.1) same_said ∙ sym y.ended,
    )

abbrev GoesOnIf : Bool → Asking → List ℕ → Asking → List ℕ → Came → Type 0
GoesOnIf left old front new text came = MatchBool left (ClientGoesOn old front new text came) (TellsAlone old front new text came)

going_if : (left : Bool) (old other : Asking) (front said more : List ℕ) (one two : Asking) (m n : Came) → AreSameAsking old other → outcome m ≢ NoMemory → outcome n ≢ NoMemory
    → GoesOnIf left old front one said m → GoesOnIf left other front two more n → Two one two said more m n
going_if true old other front said more one two m n same nm nn x y = going_same old other front said more one two m n same nm nn x y
going_if false old other front said more one two m n same nm nn x y =
    (stay old other one two same x.0 y.0, x.1 ∙ ap (λ (l : List ℕ). front ++ l) (told_one old other same) ∙ sym y.1, x.2 ∙ sym y.2)

-- what the end would do
goes_alike : (old other : AskingValue) → (old ≡ other) → has_more old ≡ has_more other
goes_alike old other like =
    ap has_more like

again_one : (old other one two : Asking) (said more : List ℕ) (m n : Came) → AreSameAsking old other → outcome m ≢ NoMemory → outcome n ≢ NoMemory → Resends old one said m → Resends other two more n
    → Two one two said more m n
again_one old other one two said more m n same nm nn x y =
    let sent = has_sent old.end same.5 in
    let again : AllAgain old.end.port.link y.0 = subst (λ (p : PortValue). AllAgain p.link y.0) (ap (λ (v : AskingValue). v.port) (sym same.0)) y.1 in
    let packets = all_again old.end.port.link sent.0 x.0 y.0 sent.1 x.1 again in
    let there : GoesOnIf (has_more old.end) other (packets_text x.0) two more n =
    subst (λ (b : Bool). GoesOnIf b other (packets_text x.0) two more n) (sym (goes_alike old.end other.end same.0))
    (subst (λ (l : List (List ℕ)). GoesOnIf (has_more other.end) other (packets_text l) two more n) (sym packets) y.2) in
    going_if (has_more old.end) old other (packets_text x.0) said more one two m n same nm nn x.2 there

resend_one : (failed : Bool) (old other one two : Asking) (said more : List ℕ) (m n : Came) → AreSameAsking old other → outcome m ≢ NoMemory → outcome n ≢ NoMemory
    → MatchBool failed (LeavesEnd (Untold Done) old one m × (said ≡ (link_refusal Failed).0)) (Resends old one said m)
    → MatchBool failed (LeavesEnd (Untold Done) other two n × (more ≡ (link_refusal Failed).0)) (Resends other two more n) → Two one two said more m n
resend_one true old other one two said more m n same nm nn x y = (stay old other one two same x.0.0 y.0.0, x.1 ∙ sym y.1, x.0.1 ∙ sym y.0.1)
resend_one false old other one two said more m n same nm nn x y = again_one old other one two said more m n same nm nn x y

-- ---- A request.

ask_apart : (own : Configuration) (requests : List Request) (answers : List Item) (request : Request) (f : AskFault) → f ≢ ask.NoMemory → IsAdmissible own requests answers request → IsRefused own requests answers request f → ⊥
ask_apart own requests answers request ask.Busy want may h = h may.0
ask_apart own requests answers request ask.WrongPhase want may h = h.1 may.1
ask_apart own requests answers request ask.TooLarge want may h = h.2 may.2
ask_apart own requests answers request ask.NoMemory want may h = want refl
ask_apart own requests answers request ask.Failed want may h = h

ask_why : (own : Configuration) (requests : List Request) (answers : List Item) (request : Request) (f g : AskFault) → f ≢ ask.NoMemory → g ≢ ask.NoMemory → IsRefused own requests answers request f → IsRefused own requests answers request g → f ≡ g
ask_why own requests answers request ask.Busy ask.Busy nf ng x y = refl
ask_why own requests answers request ask.Busy ask.WrongPhase nf ng x y = absurd (x y.0)
ask_why own requests answers request ask.Busy ask.TooLarge nf ng x y = absurd (x y.0)
ask_why own requests answers request ask.WrongPhase ask.Busy nf ng x y = absurd (y x.0)
ask_why own requests answers request ask.WrongPhase ask.WrongPhase nf ng x y = refl
ask_why own requests answers request ask.WrongPhase ask.TooLarge nf ng x y = absurd (x.1 y.1)
ask_why own requests answers request ask.TooLarge ask.Busy nf ng x y = absurd (y x.0)
ask_why own requests answers request ask.TooLarge ask.WrongPhase nf ng x y = absurd (y.1 x.1)
ask_why own requests answers request ask.TooLarge ask.TooLarge nf ng x y = refl
ask_why own requests answers request ask.NoMemory g nf ng x y = absurd (nf refl)
ask_why own requests answers request f ask.NoMemory nf ng x y = absurd (ng refl)
ask_why own requests answers request ask.Failed g nf ng x y = absurd x
ask_why own requests answers request f ask.Failed nf ng x y = absurd y

-- of an end that works
refused_by : (request : Request) (v : AskingValue) (past : ClientHistory) (f : AskFault) → HasAsked past v → AskRefused request v.present f → IsRefused v.present.identity past.requests past.answers request f
refused_by request v past ask.Failed h r = absurd (true≢false (sym r ∙ h.asking.works))
refused_by request v past ask.Busy h r = r.1 past.requests past.answers h.asking
refused_by request v past ask.WrongPhase h r = r.1 past.requests past.answers h.asking
refused_by request v past ask.TooLarge h r = r.1 past.requests past.answers h.asking
refused_by request v past ask.NoMemory h r = r.1 past.requests past.answers h.asking

-- of one that an unexpected answer failed
only_failed : (request : Request) (v : AskingValue) (f : AskFault) → v.present.failed ≡ true → AskRefused request v.present f → f ≡ ask.Failed
only_failed request v ask.Failed e r = refl
only_failed request v ask.Busy e r = absurd (true≢false (sym e ∙ r.0))
only_failed request v ask.WrongPhase e r = absurd (true≢false (sym e ∙ r.0))
only_failed request v ask.TooLarge e r = absurd (true≢false (sym e ∙ r.0))
only_failed request v ask.NoMemory e r = absurd (true≢false (sym e ∙ r.0))

not_want : (old : Asking) (request : Request) (new : Asking) (text : List ℕ) (m : Came) (f : AskFault) → outcome m ≢ NoMemory → AsksNot old new text m f → f ≢ ask.NoMemory
not_want old request new text m ask.Busy want h e = (let apart : ⊥ = cc in apart)
not_want old request new text m ask.NoMemory want h e = want (ap outcome h.2)
not_want old request new text m ask.Failed want h e = (let apart : ⊥ = cc in apart)
not_want old request new text m ask.WrongPhase want h e = (let apart : ⊥ = cc in apart)
not_want old request new text m ask.TooLarge want h e = (let apart : ⊥ = cc in apart)

said_why : (old other one two : Asking) (said more : List ℕ) (m n : Came) (f : AskFault) → AreSameAsking old other → (one ≡ old) × (said ≡ (ask_refusal f).0) × (m ≡ Untold (ask_refusal f).1)
    → (two ≡ other) × (more ≡ (ask_refusal f).0) × (n ≡ Untold (ask_refusal f).1) → Two one two said more m n
said_why old other one two said more m n f same x y = (stay old other one two same x.0 y.0, x.1 ∙ sym y.1, x.2 ∙ sym y.2)

not_one : (old other one two : Asking) (said more : List ℕ) (m n : Came) (f : AskFault) → AreSameAsking old other → outcome m ≢ NoMemory → outcome n ≢ NoMemory
    → AsksNot old one said m f → AsksNot other two more n f → Two one two said more m n
not_one old other one two said more m n ask.Busy same nm nn x y = going_same old other (front_text front.Busy) said more one two m n same nm nn x y
not_one old other one two said more m n ask.Failed same nm nn x y = said_why old other one two said more m n ask.Failed same x y
not_one old other one two said more m n ask.WrongPhase same nm nn x y = said_why old other one two said more m n ask.WrongPhase same x y
not_one old other one two said more m n ask.TooLarge same nm nn x y = said_why old other one two said more m n ask.TooLarge same x y
not_one old other one two said more m n ask.NoMemory same nm nn x y = said_why old other one two said more m n ask.NoMemory same x y

-- it was asked, and its messages are on their way
abbrev AsksIt : (each : Bool) → Asking → Request → Asking → List ℕ → Came → Type 0
AsksIt each old request new text came =
    (count : ℕ) × (mid : AskingValue) × AskedOne request old.end mid count × ClientGoesOn (begun each request (record old { end = mid })) (front_text (front.Asked count)) new text came

-- it was asked of both
it_one : (each : Bool) (old other one two : Asking) (request : Request) (said more : List ℕ) (m n : Came) (past : ClientHistory) → HasAsked past old.end → AreSameAsking old other → outcome m ≢ NoMemory → outcome n ≢ NoMemory
    → AsksIt each old request one said m → AsksIt each other request two more n → Two one two said more m n
it_one each old other one two request said more m n past h same nm nn x y =
    let asked : AskedOne request old.end y.1 y.0 = subst (λ (v : AskingValue). AskedOne request v y.1 y.0) (sym same.0) y.2 in
    let t = asking_one past request old.end x.1 y.1 x.0 y.0 h x.2 asked in
    let there : ClientGoesOn (begun each request (record other { end = y.1 })) (front_text (front.Asked x.0)) two more n =
    subst (λ (k : ℕ). ClientGoesOn (begun each request (record other { end = y.1 })) (front_text (front.Asked k)) two more n) (sym t.1) y.3 in
    let now : AreSameAsking (begun each request (record old { end = x.1 })) (begun each request (record other { end = y.1 })) =
    (t.0, same.1, same.2, refl, ap (λ (b : Bool). each_after each request b) same.4, inl (_, asked_history request old.end x.1 x.0 x.2 past h)) in
    going_same (begun each request (record old { end = x.1 })) (begun each request (record other { end = y.1 })) (front_text (front.Asked x.0)) said more one two m n now nm nn x.3 there

-- it was asked of one, and refused by the other
it_apart : (each : Bool) (old other one two : Asking) (request : Request) (said more : List ℕ) (m n : Came) (past : ClientHistory) (f : AskFault) → HasAsked past old.end → (old.end ≡ other.end) → outcome n ≢ NoMemory → AsksIt each old request one said m
    → AskRefused request other.end.present f → AsksNot other two more n f → ⊥
it_apart each old other one two request said more m n past f h like nn x r y =
    let there : AskRefused request old.end.present f = subst (λ (v : AskingValue). AskRefused request v.present f) (sym like) r in
    ask_apart old.end.present.identity past.requests past.answers request f (not_want other request two more n f nn y) (x.2.asks.admissible past.requests past.answers h.asking)
    (refused_by request old.end past f h there)

running_one : (each : Bool) (old other one two : Asking) (request : Request) (said more : List ℕ) (m n : Came) → AreSameAsking old other → HasDone old.end → outcome m ≢ NoMemory → outcome n ≢ NoMemory → AnswersAsk each old request one said m
    → AnswersAsk each other request two more n → Two one two said more m n
running_one each old other one two request said more m n same (inl d) nm nn (inl x) (inl y) = it_one each old other one two request said more m n d.0 d.1 same nm nn x y
running_one each old other one two request said more m n same (inl d) nm nn (inl x) (inr y) =
    absurd (it_apart each old other one two request said more m n d.0 y.0 d.1 same.0 nn x y.1 y.2)
running_one each old other one two request said more m n same (inl d) nm nn (inr x) (inl y) =
    absurd (it_apart each other old two one request more said n m d.0 x.0 (subst (HasAsked d.0) same.0 d.1) (sym same.0) nm y x.1 x.2)
running_one each old other one two request said more m n same (inl d) nm nn (inr x) (inr y) =
    let there : AskRefused request old.end.present y.0 = subst (λ (v : AskingValue). AskRefused request v.present y.0) (sym same.0) y.1 in
    let why = ask_why old.end.present.identity d.0.requests d.0.answers request x.0 y.0 (not_want old request one said m x.0 nm x.2) (not_want other request two more n y.0 nn y.2)
    (refused_by request old.end d.0 x.0 d.1 x.1) (refused_by request old.end d.0 y.0 d.1 there) in
    not_one old other one two said more m n x.0 same nm nn x.2 (subst (λ (f : AskFault). AsksNot other two more n f) (sym why) y.2)
running_one each old other one two request said more m n same (inr d) nm nn (inl x) y = absurd (true≢false (sym d.0 ∙ x.2.asks.works))
running_one each old other one two request said more m n same (inr d) nm nn (inr x) (inl y) = absurd (true≢false (sym d.0 ∙ ap (λ (v : AskingValue). v.present.failed) same.0 ∙ y.2.asks.works))
running_one each old other one two request said more m n same (inr d) nm nn (inr x) (inr y) =
    let why : x.0 ≡ y.0 = only_failed request old.end x.0 d.0 x.1 ∙ sym (only_failed request other.end y.0 (ap (λ (v : AskingValue). v.present.failed) (sym same.0) ∙ d.0) y.1) in
    not_one old other one two said more m n x.0 same nm nn x.2 (subst (λ (f : AskFault). AsksNot other two more n f) (sym why) y.2)

ask_one : (failed each : Bool) (old other one two : Asking) (request : Request) (said more : List ℕ) (m n : Came) → AreSameAsking old other → outcome m ≢ NoMemory → outcome n ≢ NoMemory
    → MatchBool failed (LeavesEnd (Untold Done) old one m × (said ≡ (link_refusal Failed).0)) (AnswersAsk each old request one said m)
    → MatchBool failed (LeavesEnd (Untold Done) other two n × (more ≡ (link_refusal Failed).0)) (AnswersAsk each other request two more n) → Two one two said more m n
ask_one true each old other one two request said more m n same nm nn x y = (stay old other one two same x.0.0 y.0.0, x.1 ∙ sym y.1, x.0.1 ∙ sym y.0.1)
ask_one false each old other one two request said more m n same nm nn x y = running_one each old other one two request said more m n same same.5 nm nn x y

-- ---- A new link.

same_end : (one two : AskingValue) → one.port ≡ two.port → one.present ≡ two.present → one ≡ two
same_end one two port accessing = ap (λ (p : PortValue). record one { port = p }) port ∙ ap (λ (x : ClientState). record two { present = x }) accessing

abbrev NewBy : Asking → Option Between → Asking → Type 0
NewBy old anew new = IsNewAsking (setup_anew old.setup anew) old.end.present.identity new

-- new ends that are set up alike
pub new_asking : (setup : LinkSetup) (identity : Configuration) (one other : Asking) → IsNewAsking setup identity one → IsNewAsking setup identity other → AreSameAsking one other
new_asking setup identity one other x y =
    let accessing : one.end.present ≡ other.end.present = one_present [] [] one.end.present other.end.present x.asked.asking y.asked.asking (x.is_identity ∙ sym y.is_identity) in (
      same_end one.end other.end (x.port ∙ sym y.port) accessing,
      x.is_setup ∙ sym y.is_setup,
      x.reports ∙ sym y.reports,
      x.told ∙ sym y.told,
      x.each ∙ sym y.each,
      inl (nothing_asked, x.asked),
    )

renewed_one : (old other one two : Asking) (anew : Option Between) → AreSameAsking old other → NewBy old anew one → NewBy other anew two → AreSameAsking one two
renewed_one old other one two anew same x y =
    let there : NewBy old anew two =
    subst (λ (s : LinkSetup). IsNewAsking (setup_anew s anew) old.end.present.identity two) (sym same.1) (subst (λ (v : AskingValue). IsNewAsking (setup_anew other.setup anew) v.present.identity two) (sym same.0) y) in
    new_asking (setup_anew old.setup anew) old.end.present.identity one two x there

renew_one : (old other one two : Asking) (anew : Option Between) (said more : List ℕ) (m n : Came) → AreSameAsking old other → outcome m ≢ NoMemory → outcome n ≢ NoMemory
    → DoneOr Untold (IsSetup (setup_anew old.setup anew) × NewBy old anew one) (SetupFault (setup_anew old.setup anew)) link_refusal old one said m
    → DoneOr Untold (IsSetup (setup_anew other.setup anew) × NewBy other anew two) (SetupFault (setup_anew other.setup anew)) link_refusal other two more n → Two one two said more m n
renew_one old other one two anew said more m n same nm nn (inl x) (inl y) = (renewed_one old other one two anew same x.0.1 y.0.1, x.1 ∙ sym y.1, x.2 ∙ sym y.2)
renew_one old other one two anew said more m n same nm nn (inl x) (inr y) =
    let setup : setup_anew other.setup anew ≡ setup_anew old.setup anew = ap (λ (s : LinkSetup). setup_anew s anew) (sym same.1) in
    absurd (setup_apart (setup_anew old.setup anew) y.0 (λ e. nn (ap outcome y.4 ∙ e)) x.0.0 (subst (λ (s : LinkSetup). SetupFault s y.0) setup y.1))
renew_one old other one two anew said more m n same nm nn (inr x) (inl y) =
    let setup : setup_anew old.setup anew ≡ setup_anew other.setup anew = ap (λ (s : LinkSetup). setup_anew s anew) same.1 in
    absurd (setup_apart (setup_anew other.setup anew) x.0 (λ e. nm (ap outcome x.4 ∙ e)) y.0.0 (subst (λ (s : LinkSetup). SetupFault s x.0) setup x.1))
renew_one old other one two anew said more m n same nm nn (inr x) (inr y) =
    let setup : setup_anew old.setup anew ≡ setup_anew other.setup anew = ap (λ (s : LinkSetup). setup_anew s anew) same.1 in
    let f = setup_one (setup_anew other.setup anew) x.0 y.0 (λ e. nm (ap outcome x.4 ∙ e)) (λ e. nn (ap outcome y.4 ∙ e)) (subst (λ (s : LinkSetup). SetupFault s x.0) setup x.1) y.1 in
    (stay old other one two same x.2 y.2, x.3 ∙ ap (λ k. (link_refusal k).0) f ∙ sym y.3, x.4 ∙ ap (λ k. Untold ((link_refusal k).1)) f ∙ sym y.4)

-- ---- A line.

same_failed : (old other : Asking) → AreSameAsking old other → old.end.port.link.failed ≡ other.end.port.link.failed
same_failed old other same = ap (λ (v : AskingValue). v.port.link.failed) same.0

does_one : (old other one two : Asking) (o : AskOrder) (said more : List ℕ) (m n : Came) → Fits (Some o) → AreSameAsking old other → outcome m ≢ NoMemory → outcome n ≢ NoMemory → AskingDoes old o one said m → AskingDoes other o two more n
    → Two one two said more m n
does_one old other one two (order.Packet bytes) said more m n fits same nm nn x y = packet_one old other one two bytes said more m n fits same nm nn x y
does_one old other one two order.Resend said more m n fits same nm nn x y =
    resend_one old.end.port.link.failed old other one two said more m n same nm nn x
    (subst (λ (f : Bool). MatchBool f (LeavesEnd (Untold Done) other two n × (more ≡ (link_refusal Failed).0)) (Resends other two more n)) (sym (same_failed old other same)) y)
does_one old other one two order.Ack said more m n fits same nm nn x y = (
  stay old other one two same x.0.0 y.0.0,
  ack_one old.end.port.link said more x.1 (subst (λ (v : AskingValue). SaysAck v.port.link more) (sym same.0) y.1),
  x.0.1 ∙ sym y.0.1,
)
does_one old other one two (order.New anew) said more m n fits same nm nn x y = renew_one old other one two anew said more m n same nm nn x y
does_one old other one two (order.Ask request) said more m n fits same nm nn x y =
    ask_one old.end.port.link.failed false old other one two request said more m n same nm nn x
    (subst (λ (f : Bool). MatchBool f (LeavesEnd (Untold Done) other two n × (more ≡ (link_refusal Failed).0)) (AnswersAsk false other request two more n)) (sym (same_failed old other same)) y)
does_one old other one two order.FetchEach said more m n fits same nm nn x y =
    ask_one old.end.port.link.failed true old other one two Fetch said more m n same nm nn x
    (subst (λ (f : Bool). MatchBool f (LeavesEnd (Untold Done) other two n × (more ≡ (link_refusal Failed).0)) (AnswersAsk true other Fetch two more n)) (sym (same_failed old other same)) y)

-- what waited is dropped where the answer has it
ends_outcome : (m : Came) (old new : Asking) (b : Became) → Ends m old new b → outcome m ≡ b
ends_outcome (Told was) old new b h = sym h.1
ends_outcome (Untold was) old new b h = sym h.1

-- this many are told then, by the parts that it is of
abbrev after_by : Bool → (told : ℕ) → AskingValue → ℕ
after_by is_each told end = if is_each then length (records_kept end.present.pending) else told

after_one : (one two : Asking) → AreSameAsking one two → told_after one ≡ told_after two
after_one one two same =
    ap (λ (b : Bool). after_by b one.told one.end) same.4 ∙ ap (λ (n : ℕ). after_by two.is_each n one.end) same.3 ∙ ap (λ (v : AskingValue). after_by two.is_each two.told v) same.0

ends_one : (m : Came) (old other new end : Asking) (b c : Became) → AreSameAsking old other → Ends m old new b → Ends m other end c → AreSameAsking new end × (b ≡ c)
ends_one (Told was) old other new end b c same x y =
    let ex : new.end ≡ old.end = ap (λ (a : Asking). a.end) x.0.0 in
    let ey : end.end ≡ other.end = ap (λ (a : Asking). a.end) y.0.0 in (
      (
        ex ∙ same.0 ∙ sym ey,
        ap (λ (a : Asking). a.setup) x.0.0 ∙ same.1 ∙ sym (ap (λ (a : Asking). a.setup) y.0.0),
        x.0.1 ∙ sym y.0.1,
        ap (λ (a : Asking). a.told) x.0.0 ∙ after_one old other same ∙ sym (ap (λ (a : Asking). a.told) y.0.0),
        ap (λ (a : Asking). a.is_each) x.0.0 ∙ same.4 ∙ sym (ap (λ (a : Asking). a.is_each) y.0.0),
        subst HasDone (sym ex) same.5,
      ),
      x.1 ∙ sym y.1,
    )
ends_one (Untold was) old other new end b c same x y = (stay old other new end same x.0 y.0, x.1 ∙ sym y.1)

all_one : (old other one two : Asking) (o : AskOrder) (said more : List ℕ) (b c : Became) → Fits (Some o) → AreSameAsking old other → b ≢ NoMemory → c ≢ NoMemory → DoesAll old o one said b → DoesAll other o two more c
    → AreSameAsking one two × (said ≡ more) × (b ≡ c)
all_one old other one two o said more b c fits same nb nc x y =
    let t = does_one old other x.0 y.0 o said more x.1 y.1 fits same (λ e. nb (sym (ends_outcome x.1 x.0 one b x.3) ∙ e)) (λ e. nc (sym (ends_outcome y.1 y.0 two c y.3) ∙ e)) x.2 y.2 in
    let e = ends_one x.1 x.0 y.0 one two b c t.0 x.3 (subst (λ (m : Came). Ends m y.0 two c) (sym t.2) y.3) in
    (e.0, t.1, e.1)

order_one : (old other one two : Asking) (o : Option AskOrder) (said more : List ℕ) (b c : Became) → Fits o → AreSameAsking old other → b ≢ NoMemory → c ≢ NoMemory → DoesAskOrder old o one said b → DoesAskOrder other o two more c
    → AreSameAsking one two × (said ≡ more) × (b ≡ c)
order_one old other one two None said more b c fits same nb nc x y = (stay old other one two same x.0 y.0, x.1 ∙ sym y.1, x.2 ∙ sym y.2)
order_one old other one two (Some o) said more b c fits same nb nc (inl x) (inl y) =
    all_one old other one two o said more b c fits same nb nc x y
order_one old other one two (Some o) said more b c fits same nb nc (inl x) (inr y) = absurd (nc y.2)
order_one old other one two (Some o) said more b c fits same nb nc (inr x) y = absurd (nb x.2)

asking_answers : (one other new end : Asking) (line said more : List ℕ) (b c : Became) → AreSameAsking one other → b ≢ NoMemory → c ≢ NoMemory → answered one (Some line) new said b → answered other (Some line) end more c
    → AreSameAsking new end × (said ≡ more) × (b ≡ c)
asking_answers one other new end line said more b c same nb nc x y = order_one one other new end (ask_order_of line) said more b c (line_fits line) same nb nc x y

-- something waits to be told, by the parts that it is of
abbrev waits_by : Bool → (told : ℕ) → List Report → AskingValue → Bool
waits_by is_each told reports end = nat_lt 0 (length reports) || (is_each && nat_lt told (length (records_kept end.present.pending)))

told_waits : (one two : Asking) → AreSameAsking one two → waits_told one ≡ waits_told two
told_waits one two same =
    ap (λ (b : Bool). waits_by b one.told one.reports.items one.end) same.4 ∙ ap (λ (n : ℕ). waits_by two.is_each n one.reports.items one.end) same.3
    ∙ ap (λ (l : List Report). waits_by two.is_each two.told l one.end) same.2 ∙ ap (λ (v : AskingValue). waits_by two.is_each two.told two.reports.items v) same.0

asking_waits : (one other : Asking) → AreSameAsking one other → waiting one ≡ waiting other
asking_waits one other same = ap (λ (n : ℕ). Some n)
    (ap (λ (v : AskingValue). waits_of v.port.link (has_more one.end || waits_told one)) same.0
    ∙ ap (λ (b : Bool). waits_of other.end.port.link (b || waits_told one)) (goes_alike one.end other.end same.0)
    ∙ ap (λ (b : Bool). waits_of other.end.port.link (has_more other.end || b)) (told_waits one other same))

pub asking_text : HaveOneText answered waiting AreSameAsking
asking_text = one_text answered waiting AreSameAsking (one_answer answered waiting AreSameAsking asking_answers (λ one other new end said more b c. stay one other new end) asking_waits)
