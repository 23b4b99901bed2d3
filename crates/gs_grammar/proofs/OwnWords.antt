-- Words that are their own values.
use Rattle.std.proofs.Common.{◌≡◌, ℕ, Bool, true, IsTrue, List, [], ◌∷◌, length, refl, sym, ◌∙◌, inl, leb}
use Rattle.std.specs.List.{list_all}
use Rattle.std.proofs.lemmas.Bool.{and_parts, leb-true}
use Rattle.gs_chars.specs.Escapes.{is_plain}
use Rattle.gs_grammar.specs.declared.item.Item.TheVariants.{Esc}
use Rattle.gs_grammar.specs.Items.{is_between}
use Rattle.gs_grammar.specs.Words.{Word, SpellsEach, no_more, one_more}

-- characters that are spelled as themselves

spelled_plain : (w : List ℕ) → list_all is_plain w ≡ true → SpellsEach w w
spelled_plain [] h = no_more
spelled_plain (c ∷ w) h =
    let both = and_parts (is_plain c) (list_all is_plain w) h in
    one_more c w (c ∷ []) w (inl (both.0, refl)) (spelled_plain w both.1)

pub own_escaped : (lo hi : ℕ) (w : List ℕ) (within : Bool) → within ≡ is_between lo hi (length w) → within ≡ true
    → (plain : Bool) → plain ≡ list_all is_plain w → IsTrue plain → Word (Esc lo hi) w w
own_escaped lo hi w within e t plain f p =
    let both = and_parts (leb lo (length w)) (leb (length w) hi) (sym e ∙ t) in
    (record { least = leb-true _ _ both.0; most = leb-true _ _ both.1 }, spelled_plain w (sym f ∙ p))
