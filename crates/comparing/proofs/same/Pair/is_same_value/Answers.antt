use Rattle.std.proofs.Common.{◌≡◌, ℤ, true, false, not, is_some, Some, None, Option, Decides, int_eq, sym, refl, ap, ◌∙◌}
use Rattle.std.proofs.lemmas.Bool.{both_ways, false≢true}
use Rattle.std.proofs.lemmas.Bool.Decides.{Decides-int_eq}
use Rattle.std.specs.Option.{option_map, option_eq}
use Rattle.sheet.specs.declared.rows.Element.{Element}
use Rattle.sheet.specs.Lookup.{element_at}
use Rattle.comparing.proofs.same.Pair.is_same_value.Goals as goal

-- a value is told exactly where the element is there
told : (v : ℤ) (o : Option Element) → is_some (option_map (λ x. v) o) ≡ is_some o
told v None = refl
told v (Some x) = refl

same_number : (x y : Option ℤ) → Decides (option_eq int_eq x y) (y ≡ x)
same_number None None = ((λ _. refl), (λ _. refl))
same_number None (Some y) = ((λ h. absurd (false≢true h)), (λ e. absurd (false≢true (sym (ap is_some e)))))
same_number (Some x) None = ((λ h. absurd (false≢true h)), (λ e. absurd (false≢true (ap is_some e))))
same_number (Some x) (Some y) = let d = Decides-int_eq x y in ((λ h. ap Some (sym (d.0 h))), (λ e. let same : x ≡ y = cc in d.1 same))

pub returns-then-is_none : goal.returns-then-is_none
returns-then-is_none g c =
    let o = element_at (g.P.Rig.rows c.args.self.now.pile.now) c.args.e in
    let gone : is_some o ≡ false = sym (ap is_some c.value-here.ensures ∙ told _ o) ∙ c.is_none.ensures ∙ ap not c.if-is_none.true in
    ((λ _ kept. absurd (both_ways (is_some o) gone kept)), (λ _. c.if-is_none.true))

pub returns-else-is_none : goal.returns-else-is_none
returns-else-is_none g c =
    let o = element_at (g.P.Rig.rows c.args.self.now.pile.now) c.args.e in
    let kept : is_some o ≡ true = sym (ap is_some c.value-here.ensures ∙ told _ o) ∙ c.is_none.ensures ∙ ap not c.if-is_none.false in
    let d = same_number c.value-here.result c.value.result in
    ((λ h _. sym c.value.ensures ∙ d.0 (sym c.eq.ensures ∙ h) ∙ c.value-here.ensures), (λ all. c.eq.ensures ∙ d.1 (c.value.ensures ∙ all kept ∙ sym c.value-here.ensures)))
