-- What the table's answer means in the code's enums: `Answered` says what an engine's function has of it, `add-answered` and so on that it has it by the
-- function that it chose, `done-goes` that the engine then goes on, `stopped-halts` that the run stops.
use Rattle.std.specs.Prelude.{ℕ, List, ℤ, pos, get_or, set, Ok, Err}
use Rattle.std.proofs.Common.{arith, ap₂, ◌∙◌}
use Rattle.std.proofs.Math.Path.{◌≡◌, refl, sym, ap, subst}
use Rattle.language.specs.Table.{Table, Effect, leaves, halts, Asked, gives, refuses, queried}
use Rattle.language.specs.Machine.{Limits}
use Rattle.language.specs.declared.Stop.{Stop}
use Rattle.frames.specs.Frame.{frame_step, halted}
use Rattle.run_moves.specs.declared.Ask.{Ask}
use Rattle.run_moves.specs.declared.Ask.TheVariants.{Add, Remove, Query as Queried}
use Rattle.run_moves.specs.Acting.{Answer, stored, answer}
use Rattle.table_laws.specs.Listing.{Beside, KeepsList}
use Rattle.table_pairs.specs.Outcomes.{Change}
use Rattle.table_pairs.specs.Outcomes.{Query}
use Rattle.table_pairs.specs.Outcomes.{change_of, count_after, words_after, value_of}
use Rattle.steps.specs.Standing.{Standing}
use Rattle.steps.specs.Means.{GoesOn, EffectMeans, AnswerMeans}
use Rattle.run_state.specs.declared.Registers.{Registers}
use Rattle.run_state.specs.declared.Turn.{Turn}
use Rattle.run_state.specs.declared.Turn.TheVariants.{Went, Stopped}
use Rattle.run_state.specs.Limits.{goes_to}
use Rattle.run_state.specs.Turns.{pairs_after}

unfoldable pub turn_after : Registers → ℕ → Change → Turn
turn_after here place (Ok n) = Went (goes_to here here.live place here.end n)
turn_after here place (Err c) = Stopped c

pairs-after : (here : Registers) (place : ℕ) (c : Change) → count_after here.pairs c ≡ pairs_after here (turn_after here place c)
unfolding turn_after count_after
pairs-after here place (Ok n) = refl
pairs-after here place (Err c) = refl

-- the list is kept by a step, once it is kept by the function that was asked
pub answered-lists : {limit : ℕ} {table groups table' groups' : List ℤ} (here : Registers) (place : ℕ) (c : Change) {n : Turn} → n ≡ turn_after here place c
    → KeepsList limit table here.pairs groups table' (count_after here.pairs c) groups' → KeepsList limit table here.pairs groups table' (pairs_after here n) groups'
answered-lists {limit} {table' = table'} {groups' = groups'} here place c e k past b =
    subst (λ (m : ℕ). Beside limit past (record { words = table'; used = m }) groups') (pairs-after here place c ∙ sym (ap (pairs_after here) e)) (k past b)

abbrev pub Answered : Answer → List ℤ → Change → List ℤ → List ℤ → Type 0
Answered x table r cells' table' = (r ≡ change_of x.effect) × ((cells' ≡ x.cells) × (table' ≡ words_after table x.effect))

-- AD and RM, with the values that the code has read
pub changed-by : (f : ℤ → ℤ → Effect) (before : List ℤ) {a b x y : ℤ} {c : Change} {after : List ℤ} → a ≡ x → b ≡ y → c ≡ change_of (f a b) → after ≡ words_after before (f a b)
    → (c ≡ change_of (f x y)) × (after ≡ words_after before (f x y))
changed-by f before p q c after = (c ∙ ap change_of (ap₂ f p q), after ∙ ap (words_after before) (ap₂ f p q))

-- QY
asked-value : (x : Asked) (z : ℤ) → value_of x ≡ Ok z → x ≡ gives z
unfolding value_of
asked-value (gives y) z e = cc
asked-value (refuses c) z e = let f : ◌≡◌ {A = ℕ} 0 1 = cc in absurd (omega arith)

asked-refused : (x : Asked) (c : Stop) → value_of x ≡ Err c → x ≡ refuses c
unfolding value_of
asked-refused (gives y) c e = let f : ◌≡◌ {A = ℕ} 0 1 = cc in absurd (omega arith)
asked-refused (refuses d) c e = cc

module _ (cells : List ℤ) (t : Table) (group member target : ℕ) {a b : ℤ} {q : Query} (p : a ≡ get_or cells group (pos 0)) (r : b ≡ get_or cells member (pos 0))
    (e : q ≡ value_of (queried a b t)) where
  abbrev asked : Asked
  asked = queried (get_or cells group (pos 0)) (get_or cells member (pos 0)) t

  read : q ≡ value_of asked
  read = e ∙ ap₂ (λ (x y : ℤ). value_of (queried x y t)) p r

  abbrev told : Answer
  told = answer 0 cells t group member target Queried

  pub query-gives : {z : ℤ} → q ≡ Ok z → (Ok t.used ≡ change_of told.effect) × (set cells target z ≡ told.cells)
  unfolding answer stored change_of
  query-gives {z} f =
      let g : asked ≡ gives z = asked-value asked z (sym read ∙ f) in
      (sym (ap (λ (x : Asked). change_of (stored 0 cells t group member target x).effect) g), sym (ap (λ (x : Asked). (stored 0 cells t group member target x).cells) g))

  pub query-refuses : {c : Stop} → q ≡ Err c → (Err c ≡ change_of told.effect) × (cells ≡ told.cells)
  unfolding answer stored change_of
  query-refuses {c} f =
      let g : asked ≡ refuses c = asked-refused asked c (sym read ∙ f) in
      (sym (ap (λ (x : Asked). change_of (stored 0 cells t group member target x).effect) g), sym (ap (λ (x : Asked). (stored 0 cells t group member target x).cells) g))

-- an engine's choice among the three functions, by what was asked; and the list beside what they answer
pub with-list : {A B C D : Type 0} → A × (B × C) → D → A × (B × (C × D))
with-list a d = (a.0, (a.1.0, (a.1.1, d)))

module _ (limit : ℕ) (cells : List ℤ) (t : Table) (group member target : ℕ) where
  abbrev Is : Ask → Change → List ℤ → List ℤ → Type 0
  Is a = Answered (answer limit cells t group member target a) t.words

  pub add-answered : {a : Ask} {c : Change} {table' : List ℤ} → a ≡ Add
      → (c ≡ change_of (answer limit cells t group member 0 Add).effect) × (table' ≡ words_after t.words (answer limit cells t group member 0 Add).effect) → Is a c cells table'
  unfolding answer
  add-answered {c = c} {table' = table'} e h = subst (λ (x : Ask). Is x c cells table') (sym e) (h.0, (refl, h.1))

  pub remove-answered : {a : Ask} {c : Change} {table' : List ℤ} → a ≡ Remove
      → (c ≡ change_of (answer 0 cells t group member 0 Remove).effect) × (table' ≡ words_after t.words (answer 0 cells t group member 0 Remove).effect) → Is a c cells table'
  unfolding answer
  remove-answered {c = c} {table' = table'} e h = subst (λ (x : Ask). Is x c cells table') (sym e) (h.0, (refl, h.1))

  told-by : (x : Asked) {c : Change} {cells' : List ℤ}
      → (c ≡ change_of (stored 0 cells t group member target x).effect) × (cells' ≡ (stored 0 cells t group member target x).cells)
      → Answered (stored limit cells t group member target x) t.words c cells' t.words
  unfolding stored words_after
  told-by (gives z) h = (h.0, (h.1, refl))
  told-by (refuses c) h = (h.0, (h.1, refl))

  pub query-answered : {a : Ask} {c : Change} {cells' : List ℤ} → a ≡ Queried
      → (c ≡ change_of (answer 0 cells t group member target Queried).effect) × (cells' ≡ (answer 0 cells t group member target Queried).cells) → Is a c cells' t.words
  unfolding answer
  query-answered {c = c} {cells' = cells'} e h =
      subst (λ (x : Ask). Is x c cells' t.words) (sym e) (told-by (queried (get_or cells group (pos 0)) (get_or cells member (pos 0)) t) h)

  -- QY leaves the pairs in use as they were
  asked-pairs : (x : Asked) → count_after t.used (change_of (stored 0 cells t group member target x).effect) ≡ t.used
  unfolding stored change_of count_after
  asked-pairs (gives z) = refl
  asked-pairs (refuses c) = refl

  query-pairs : {c : Change} → c ≡ change_of (answer 0 cells t group member target Queried).effect → t.used ≡ count_after t.used c
  unfolding answer
  query-pairs e = sym (ap (count_after t.used) e ∙ asked-pairs (queried (get_or cells group (pos 0)) (get_or cells member (pos 0)) t))

  pub query-lists : {c : Change} → c ≡ change_of (answer 0 cells t group member target Queried).effect
      → (groups : List ℤ) → KeepsList limit t.words t.used groups t.words (count_after t.used c) groups
  query-lists e groups past b = subst (λ (m : ℕ). Beside limit past (record { words = t.words; used = m }) groups) (query-pairs e) b

module _ {code : List ℕ} {l : Limits} {cells : List ℤ} {blocks nexts links : List ℕ} {table : List ℤ} {pairs live at end : ℕ} (w : Standing code l cells blocks nexts links table pairs live at end) where
  goes_by : (p n : ℕ) (cells' : List ℤ) (e : Effect) → EffectMeans w p cells' e → change_of e ≡ Ok n → GoesOn w cells' (words_after table e) n p
  unfolding change_of words_after
  goes_by p n cells' (leaves t) m q = subst (λ k. GoesOn w cells' t.words k p) (count q) m
    where
      count : ◌≡◌ {A = Change} (Ok t.used) (Ok n) → t.used ≡ n
      count e = cc
  goes_by p n cells' (halts c) m q = absurd (other q)
    where
      other : ◌≡◌ {A = Change} (Err c) (Ok n) → ⊥
      other e = let z : ◌≡◌ {A = ℕ} 0 1 = cc in absurd (omega arith)

  halts_by : (p : ℕ) (c : Stop) (cells' : List ℤ) (e : Effect) → EffectMeans w p cells' e → change_of e ≡ Err c
      → (frame_step l w.stack ≡ halted c) × (cells' ≡ cells) × (words_after table e ≡ table)
  unfolding change_of words_after
  halts_by p c cells' (leaves t) m q = absurd (other q)
    where
      other : ◌≡◌ {A = Change} (Ok t.used) (Err c) → ⊥
      other e = let z : ◌≡◌ {A = ℕ} 0 1 = cc in absurd (omega arith)
  halts_by p c cells' (halts d) m q = (m.0 ∙ ap halted (cause q), m.1, refl)
    where
      cause : ◌≡◌ {A = Change} (Err d) (Err c) → d ≡ c
      cause e = cc

  module _ (p : ℕ) (x : Answer) (m : AnswerMeans w p x) (r : Change) (cells' table' : List ℤ) (h : Answered x table r cells' table') where
    pub done-goes : (n : ℕ) → r ≡ Ok n → GoesOn w cells' table' n p
    done-goes n e =
        subst (λ (T : Type 0). T) (λ i. GoesOn w (sym h.1.0 i) (sym h.1.1 i) n p) (goes_by p n x.cells x.effect m (sym h.0 ∙ e))

    pub stopped-halts : (c : Stop) → r ≡ Err c → (frame_step l w.stack ≡ halted c) × (cells' ≡ cells) × (table' ≡ table)
    stopped-halts c e =
        let k = halts_by p c x.cells x.effect m (sym h.0 ∙ e) in
        (k.0, h.1.0 ∙ k.1, h.1.1 ∙ k.2)
