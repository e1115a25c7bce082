-- What an event leaves of a link's items, and of its answers.
use Rattle.std.proofs.Common.{◌≡◌, ◌≢◌, ℕ, zero, suc, ◌<◌, Bool, List, [], ◌∷◌, ◌++◌, map, refl, ap, sym, ◌∙◌, subst, append_assoc, eq-eqb}
use Rattle.std.specs.Prelude.{◌==◌, get_or, if◌then◌else◌, set}
use Rattle.std.proofs.lemmas.Bool.{ne_eqb}
use Rattle.std.proofs.lemmas.List.{append-nil, get_or-set_other}
use Rattle.dap_accessed.specs.declared.asked.Asked.{Asked}
use Rattle.rec_file.specs.declared.picks.Rights.{Rights}
use Rattle.dap_msg.specs.declared.items.Item.{Item}
use Rattle.dap_accessed.specs.declared.setup.ServerSetup.{ServerSetup}
use Rattle.dap_accessed.specs.Standing.{Files}
use Rattle.dap_accessed.specs.Groups.{answers_in}
use Rattle.dap_shared.specs.Keeping.{AreOf}
use Rattle.dap_shared.specs.Nodes.{AnswersOn, Event, Exchange, Node, Serves, Begins, Drops, Gives, GivesRecord, exchange_at, items_on, new_exchange, new_node, no_exchange, node_after, served_on}
use Rattle.dap_shared.proofs.ForCallers.{all-more, answers-dropped, answers-stay}

-- ---- Items.

items_more : (link : ℕ) (before : List Item) (xs ys : List Event) → served_on link before (xs ++ ys) ≡ served_on link (served_on link before xs) ys
items_more link before [] ys = refl
items_more link before (Serves other item ∷ xs) ys = items_more link (if other == link then before ++ item ∷ [] else before) xs ys
items_more link before (Begins other most ∷ xs) ys = items_more link (if other == link then [] else before) xs ys
items_more link before (Gives name shape ∷ xs) ys = items_more link before xs ys
items_more link before (GivesRecord at number body ∷ xs) ys = items_more link before xs ys
items_more link before (Drops at ∷ xs) ys = items_more link before xs ys

-- one item more of the link
pub items_own : (link : ℕ) (history : List Event) (item : Item) → items_on link (history ++ Serves link item ∷ []) ≡ items_on link history ++ item ∷ []
items_own link history item =
    items_more link [] history (Serves link item ∷ []) ∙ ap (λ (t : Bool). if t then items_on link history ++ item ∷ [] else items_on link history) (eq-eqb link link refl)

items_stay : (link other : ℕ) (history : List Event) (item : Item) → link ≢ other → items_on link (history ++ Serves other item ∷ []) ≡ items_on link history
items_stay link other history item d =
    items_more link [] history (Serves other item ∷ []) ∙ ap (λ (t : Bool). if t then items_on link history ++ item ∷ [] else items_on link history) (ne_eqb other link (λ e. d (sym e)))

-- the link began
pub items_begin : (link : ℕ) (most : Rights) (history : List Event) → items_on link (history ++ Begins link most ∷ []) ≡ []
items_begin link most history = items_more link [] history (Begins link most ∷ []) ∙ ap (λ (t : Bool). if t then [] else items_on link history) (eq-eqb link link refl)

items_left : (link other : ℕ) (most : Rights) (history : List Event) → link ≢ other → items_on link (history ++ Begins other most ∷ []) ≡ items_on link history
items_left link other most history d = items_more link [] history (Begins other most ∷ []) ∙ ap (λ (t : Bool). if t then [] else items_on link history) (ne_eqb other link (λ e. d (sym e)))

-- all items of one link
pub items_one : (before items : List Item) → served_on 0 before (map (Serves 0) items) ≡ before ++ items
items_one before [] = sym (append-nil before)
items_one before (item ∷ items) = items_one (before ++ item ∷ []) items ∙ append_assoc before (item ∷ []) items

-- the link is one that the node has
pub link_there : (links link : ℕ) (history : List Event) (item : Item) → AreOf links (history ++ Serves link item ∷ []) → link < links
link_there links link [] item h = h.0
link_there links link (Serves other x ∷ history) item h = link_there links link history item h.1
link_there links link (Begins other most ∷ history) item h = link_there links link history item h.1
link_there links link (Gives name shape ∷ history) item h = link_there links link history item h
link_there links link (GivesRecord at number body ∷ history) item h = link_there links link history item h
link_there links link (Drops at ∷ history) item h = link_there links link history item h

-- a link that began has no answers
begun_past : (exchanges : List Exchange) (link : ℕ) (most : Rights) → answers_in (get_or (set exchanges link (new_exchange most)) link no_exchange).past ≡ []
begun_past [] link most = refl
begun_past (exchange ∷ exchanges) zero most = refl
begun_past (exchange ∷ exchanges) (suc link) most = begun_past exchanges link most

module _ (own : ServerSetup) (links : ℕ) (first : Files) where
  -- ---- Answers.

  pub answers_begin : (link : ℕ) (most : Rights) (history : List Event) → AnswersOn link own first links (history ++ Begins link most ∷ []) ≡ []
  answers_begin link most history =
      let node = node_after own first links history in
      ap (λ (n : Node). answers_in (exchange_at link n).past) (all-more own (new_node own first links) history (Begins link most))
      ∙ begun_past node.exchanges link most

  answers_left : (link other : ℕ) (most : Rights) (history : List Event) → link ≢ other → AnswersOn link own first links (history ++ Begins other most ∷ []) ≡ AnswersOn link own first links history
  answers_left link other most history d =
      let node = node_after own first links history in
      ap (λ (n : Node). answers_in (exchange_at link n).past) (all-more own (new_node own first links) history (Begins other most))
      ∙ ap (λ (e : Exchange). answers_in e.past) (get_or-set_other node.exchanges other link (new_exchange most) no_exchange d)

  -- ---- Both.

  -- the link has the same items and answers
  pub record IsSame (link : ℕ) (old new : List Event) : Type 0 where
    pub items : items_on link new ≡ items_on link old
    pub answers : AnswersOn link own first links new ≡ AnswersOn link own first links old

  pub same : (link : ℕ) (history : List Event) → IsSame link history history
  same link history = record { items = refl; answers = refl }

  along : (link : ℕ) (a b c : List Event) → IsSame link a b → IsSame link b c → IsSame link a c
  along link a b c h k = record { items = k.items ∙ h.items; answers = k.answers ∙ h.answers }

  -- items of another link were served
  pub others_serve : (link other : ℕ) (history : List Event) (items : List Item) → link ≢ other → IsSame link history (history ++ map (Serves other) items)
  others_serve link other history [] d = subst (IsSame link history) (sym (append-nil history)) (same link history)
  others_serve link other history (item ∷ items) d =
      let mid = history ++ Serves other item ∷ [] in
      let one : IsSame link history mid = record { items = items_stay link other history item d; answers = answers-stay own first links history other link item d } in
      subst (IsSame link history) (append_assoc history (Serves other item ∷ []) (map (Serves other) items))
      (along link history mid (mid ++ map (Serves other) items) one (others_serve link other mid items d))

  pub another_begins : (link other : ℕ) (most : Rights) (history : List Event) → link ≢ other → IsSame link history (history ++ Begins other most ∷ [])
  another_begins link other most history d = record { items = items_left link other most history d; answers = answers_left link other most history d }

  pub file_given : (link : ℕ) (history : List Event) (name : List ℕ) (shape : Asked) → IsSame link history (history ++ Gives name shape ∷ [])
  file_given link history name shape =
      record {
        items = items_more link [] history (Gives name shape ∷ []);
        answers = ap (λ (n : Node). answers_in (exchange_at link n).past) (all-more own (new_node own first links) history (Gives name shape));
      }

  pub record_given : (link : ℕ) (history : List Event) (at number : ℕ) (body : List ℕ) → IsSame link history (history ++ GivesRecord at number body ∷ [])
  record_given link history at number body =
      record {
        items = items_more link [] history (GivesRecord at number body ∷ []);
        answers = ap (λ (n : Node). answers_in (exchange_at link n).past) (all-more own (new_node own first links) history (GivesRecord at number body));
      }

  pub file_dropped : (link : ℕ) (history : List Event) (at : ℕ) → IsSame link history (history ++ Drops at ∷ [])
  file_dropped link history at = record { items = items_more link [] history (Drops at ∷ []); answers = answers-dropped own first links history link at }
