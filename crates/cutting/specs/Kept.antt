-- The things that are kept for a set of questions.
use Rattle.std.specs.Prelude.{◌≡◌, ℕ, Bool, true, false, ◌||◌, Some}
use Rattle.sheet.specs.declared.rows.Connection.{Connection}
use Rattle.sheet.specs.declared.rows.Element.{Element}
use Rattle.sheet.specs.declared.rows.Flow.{Flow}
use Rattle.sheet.specs.declared.rows.Question.{Question}
use Rattle.sheet.specs.declared.rows.Setting.{Setting}
use Rattle.sheet.specs.declared.rows.Target.TheVariants.{Element as ThatElement, Mode as ThatMode}
use Rattle.sheet.specs.declared.rows.Transition.{Transition}
use Rattle.sheet.specs.Lookup.{element_at, flow_at, connection_at, transition_at, setting_at, question_at}
use Rattle.sheet.specs.Resting.{rests}
use Rattle.sheet.specs.Sections.{Sheet}
use Rattle.running.specs.Values.{lists}
use Rattle.cutting.specs.declared.kinds.Thing.{Thing}
use Rattle.cutting.specs.declared.kinds.Thing.TheVariants.{Element as KeptElement, Event as KeptEvent, Mode as KeptMode}

-- A set of things.
abbrev pub Kept : Type 0
Kept = Thing → Bool

-- A set of questions, by their row numbers.
abbrev pub Chosen : Type 0
Chosen = ℕ → Bool

-- the questions of a set of two bytes: question q is bit q
abbrev pub chosen_in : ℕ → Chosen
chosen_in set q = lists set q

-- the from mode of a transition is in the set
abbrev pub keeps_from : Kept → Transition → Bool
keeps_from k x = k (KeptMode x.component x.from)

-- the from mode or the to mode of a transition is in the set
abbrev pub touches : Kept → Transition → Bool
touches k x = k (KeptMode x.component x.from) || k (KeptMode x.component x.to)

-- Whatever follows from the things of j by one rule is in k. Blank rows are not there, so no rule speaks of them.
pub record Follows (s : Sheet) (chosen : Chosen) (j k : Kept) : Type 0 where
  -- mode 0 is no mode
  pub no_mode_0 : (c : ℕ) → k (KeptMode c 0) ≡ false
  -- what a chosen question rests on
  pub question_elements : (q e : ℕ) (x : Question) → chosen q ≡ true → question_at s q ≡ Some x → rests s (ThatElement e) x.node ≡ true → k (KeptElement e) ≡ true
  pub question_modes : (q c m : ℕ) (x : Question) → chosen q ≡ true → question_at s q ≡ Some x → rests s (ThatMode c m) x.node ≡ true → k (KeptMode c m) ≡ true
  -- the from mode of a transition that sets a kept element
  pub setting_from : (i : ℕ) (x : Setting) (y : Transition) → setting_at s i ≡ Some x → transition_at s x.transition ≡ Some y → j (KeptElement x.element) ≡ true → keeps_from k y ≡ true
  -- the from mode of a transition with a kept event
  pub event_from : (t v : ℕ) (y : Transition) → transition_at s t ≡ Some y → y.event ≡ Some v → j (KeptEvent v) ≡ true → keeps_from k y ≡ true
  -- of a transition whose from or to mode is kept: its from mode, its event, what its guard rests on, and what its
  -- settings of kept elements rest on
  pub touched_from : (t : ℕ) (y : Transition) → transition_at s t ≡ Some y → touches j y ≡ true → keeps_from k y ≡ true
  pub touched_event : (t v : ℕ) (y : Transition) → transition_at s t ≡ Some y → touches j y ≡ true → y.event ≡ Some v → k (KeptEvent v) ≡ true
  pub touched_guard : (t e : ℕ) (y : Transition) → transition_at s t ≡ Some y → touches j y ≡ true → rests s (ThatElement e) y.guard ≡ true → k (KeptElement e) ≡ true
  pub touched_setting : (i e : ℕ) (x : Setting) (y : Transition) → setting_at s i ≡ Some x → transition_at s x.transition ≡ Some y → touches j y ≡ true → j (KeptElement x.element) ≡ true → rests s (ThatElement e) x.node ≡ true → k (KeptElement e) ≡ true
  -- of a flow to a kept port: what its node rests on, and its listed modes of the port's component
  pub flow_elements : (f e : ℕ) (x : Flow) → flow_at s f ≡ Some x → j (KeptElement x.port) ≡ true → rests s (ThatElement e) x.node ≡ true → k (KeptElement e) ≡ true
  pub flow_modes : (f m : ℕ) (x : Flow) (p : Element) → flow_at s f ≡ Some x → element_at s x.port ≡ Some p → j (KeptElement x.port) ≡ true → lists x.modes m ≡ true → k (KeptMode p.component m) ≡ true
  -- of a connection with a kept event: both events, and its listed modes of its owner
  pub connection_in : (i : ℕ) (x : Connection) → connection_at s i ≡ Some x → j (KeptEvent x.out_event) ≡ true → k (KeptEvent x.in_event) ≡ true
  pub connection_out : (i : ℕ) (x : Connection) → connection_at s i ≡ Some x → j (KeptEvent x.in_event) ≡ true → k (KeptEvent x.out_event) ≡ true
  pub connection_modes : (i m : ℕ) (x : Connection) → connection_at s i ≡ Some x → (j (KeptEvent x.out_event) || j (KeptEvent x.in_event)) ≡ true → lists x.modes m ≡ true → k (KeptMode x.owner m) ≡ true

-- A set is closed where it has whatever follows from its things.
abbrev pub Closed : Sheet → Chosen → Kept → Type 0
Closed s chosen k = Follows s chosen k k

-- Each thing of j is in k.
abbrev pub Within : Kept → Kept → Type 0
Within j k = (x : Thing) → j x ≡ true → k x ≡ true

-- The kept things: closed, and within every closed set.
pub record Smallest (s : Sheet) (chosen : Chosen) (k : Kept) : Type 0 where
  pub closed : Closed s chosen k
  pub least : (j : Kept) → Closed s chosen j → Within k j
