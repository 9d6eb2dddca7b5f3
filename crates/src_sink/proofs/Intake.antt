-- What the parts of one call of a reader of lines do, one after the other.
use Rattle.std.proofs.Common.{◌≡◌, ℕ, ◌+◌, ◌≤◌, Bool, true, false, List, [], ◌++◌, ◌==◌, Option, length, arith, refl, sym, ap, ◌∙◌, subst, append_assoc, append-nil, length-append}
use Rattle.std.proofs.KnownBytes.{Consumes-trans}
use Rattle.src_sink.specs.Outside.{IsAtEnd}
use Rattle.std.proofs.lemmas.Bool.{false≢true}
use Rattle.std.proofs.lemmas.List.Elements.{All-append, All-same}
use Rattle.src_sink.specs.Reading.{Reading, Takes, Cause, Stops, LacksLineFeed}
use Rattle.src_sink.specs.Intake.{reading, GivesPart, StopsRefill}
use Rattle.src_sink.specs.declared.whole.ReadEnd.{ReadEnd}
use Rattle.src_sink.specs.declared.whole.ReadEnd.TheVariants.{Fault, TooLong, NoMemory}
use Rattle.src_sink.specs.declared.lines.Intake.{Intake}
use Rattle.src_sink.proofs.Known.{Rose-before}

module _ (a b c : Reading) (l0 l1 l2 : Option (List ℕ)) (f g : List ℕ) (first : Takes a b l0 l1 f) (second : Takes b c l1 l2 g) where
  both : a.ended ≡ true → (f ++ g ≡ []) × (c.ended ≡ true) × (l2 ≡ l0)
  both e =
      let p = first.none_after e in
      let q = second.none_after p.1 in
      (ap (λ l. l ++ g) p.0 ∙ q.0, q.1, q.2 ∙ p.2)

  end_by : (e : Bool) → b.ended ≡ e → a.ended ≡ false → c.ended ≡ true → IsAtEnd l2
  end_by false e going last = second.at_end e last
  end_by true e going last = subst IsAtEnd (sym (second.none_after e).2) (first.at_end going e)

  -- what two calls took, one after the other
  pub Takes-trans : Takes a c l0 l2 (f ++ g)
  Takes-trans = record {
    consumed = Consumes-trans l0 l1 l2 f g first.consumed second.consumed;
    count = omega (arith, first.count, second.count, length-append f g);
    limit = second.limit ∙ first.limit;
    none_after = both;
    at_end = end_by b.ended refl;
  }

-- the same call, of readers of which other parts may differ
pub Takes-same : (a a' b b' : Reading) (left left' : Option (List ℕ)) (front : List ℕ) → a'.taken ≡ a.taken → a'.limit ≡ a.limit → a'.ended ≡ a.ended
    → b'.taken ≡ b.taken → b'.limit ≡ b.limit → b'.ended ≡ b.ended → Takes a b left left' front → Takes a' b' left left' front
Takes-same a a' b b' left left' front at al ae bt bl be h = record {
  consumed = h.consumed;
  count = bt ∙ h.count ∙ ap (λ n. n + length front) (sym at);
  limit = bl ∙ h.limit ∙ sym al;
  none_after = λ e. let p = h.none_after (sym ae ∙ e) in (p.0, be ∙ p.1, p.2);
  at_end = λ going last. h.at_end (sym ae ∙ going) (sym be ∙ last);
}

-- since a call began, these bytes were taken: a line and a piece are what was kept and these
abbrev pub Took : Intake → Intake → Option (List ℕ) → Option (List ℕ) → List ℕ → Type 0
Took start s left left' line = (front : List ℕ) × Takes (reading start []) (reading s []) left left' front × (line ++ s.piece ≡ start.piece ++ front)

-- a part of the piece went to the line
pub Took-given : (start s s' : Intake) (l0 l1 : Option (List ℕ)) (line line' : List ℕ) → Took start s l0 l1 line → GivesPart false s s' line line' → Took start s' l0 l1 line' × (s'.piece ≡ [])
Took-given start s s' l0 l1 line line' (front, takes, kept) (same, part, grown, lacks, whole, torn) =
    let end = torn refl in
    let took = Takes-same (reading start []) (reading start []) (reading s []) (reading s' []) l0 l1 front refl refl refl (ap (λ (i : Intake). i.taken) same) (ap (λ (i : Intake). i.limit) same) (ap (λ (i : Intake). i.ended) same) takes in
    let all : line' ++ s'.piece ≡ line ++ s.piece = ap (λ l. line' ++ l) end.1 ∙ append-nil line' ∙ grown ∙ ap (λ l. line ++ l) (sym end.0) in
    ((front, took, all ∙ kept), end.1)

-- the next piece was taken
pub Took-refilled : (start s s' : Intake) (l0 l1 l2 : Option (List ℕ)) (line : List ℕ) → Took start s l0 l1 line → s.piece ≡ [] → Takes (reading s []) (reading s' []) l1 l2 s'.piece → Took start s' l0 l2 line
Took-refilled start s s' l0 l1 l2 line (front, takes, kept) none more =
    let line_is : line ≡ start.piece ++ front = sym (append-nil line) ∙ ap (λ l. line ++ l) (sym none) ∙ kept in (
      front ++ s'.piece,
      Takes-trans (reading start []) (reading s []) (reading s' []) l0 l1 l2 front s'.piece takes more,
      ap (λ l. l ++ s'.piece) line_is ∙ append_assoc start.piece front s'.piece,
    )

-- a cause is one of the whole call
pub Cause-since : (e : ReadEnd) (r r' : Reading) (f0 f1 f2 : ℕ) → r'.taken ≡ r.taken → r'.limit ≡ r.limit → f0 ≤ f1 → Cause e r f1 f2 → Cause e r' f0 f2
Cause-since Fault r r' f0 f1 f2 taken limit first h = (Rose-before f0 f1 f2 first h.0, omega (arith, h.1))
Cause-since (TooLong k) r r' f0 f1 f2 taken limit first h = (omega (arith, h.0), h.1 ∙ sym taken)
Cause-since NoMemory r r' f0 f1 f2 taken limit first h = omega (arith, h)

-- a turn in which no line feed stood: the piece went to the line, and the next piece was taken
pub turn : (start s s' s'' : Intake) (l0 l1 l2 : Option (List ℕ)) (line line' : List ℕ) (whole : Bool) → whole ≡ false → Took start s l0 l1 line → LacksLineFeed line → GivesPart whole s s' line line' → Takes (reading s' []) (reading s'' []) l1 l2 s''.piece
    → Took start s'' l0 l2 line' × LacksLineFeed line' × (s''.limit ≡ s.limit)
turn start s s' s'' l0 l1 l2 line line' true torn took lacks given more = absurd (false≢true (sym torn))
turn start s s' s'' l0 l1 l2 line line' false torn took lacks given more =
    let t = Took-given start s s' l0 l1 line line' took given in
    let lacks_all = All-append (λ b. (b == 10) ≡ false) line given.1 lacks given.3 in (
      Took-refilled start s' s'' l0 l1 l2 line' t.0 t.1 more,
      All-same (λ b. (b == 10) ≡ false) line' (line ++ given.1) given.2 lacks_all,
      more.limit ∙ ap (λ (i : Intake). i.limit) given.0,
    )

-- what a call that gives no line keeps and took
pub stopped : (e : ReadEnd) (start s s' s'' : Intake) (l0 l1 l2 : Option (List ℕ)) (line line' : List ℕ) (whole : Bool) (f0 f1 f2 : ℕ) → whole ≡ false → Took start s l0 l1 line → LacksLineFeed line → GivesPart whole s s' line line'
    → f0 ≤ f1 → StopsRefill e s' s'' l1 l2 f1 f2 → Stops e (reading start []) (reading s'' line') l0 l2 f0 f2
stopped e start s s' s'' l0 l1 l2 line line' whole f0 f1 f2 torn took lacks given first stops =
    let (front, takes, kept) = (turn start s s' s'' l0 l1 l2 line line' whole torn took lacks given stops.0).0 in
    (front, Takes-same (reading start []) (reading start []) (reading s'' []) (reading s'' line') l0 l2 front refl refl refl refl refl refl takes, kept, Cause-since e (reading s'' []) (reading s'' line') f0 f1 f2 refl refl first stops.1)
