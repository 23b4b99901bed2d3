use Rattle.std.proofs.Common.{◌≡◌, true, ℕ, List, ◌++◌, take, drop, ap, sym, ◌∙◌, append_assoc, append-nil}
use Rattle.std.specs.List.{position_or_len}
use Rattle.std.proofs.lemmas.Grind.{flat_map-append}
use Rattle.memchr.specs.Find.{is_byte2}
use Rattle.gs_element.specs.BracketedTexts.{is_cut, value_before, written_character, written_value}
use Rattle.gs_element.proofs.BracketLemmas.{plain_front, value_none}
use Rattle.gs_element.proofs.bracketed_text.read_value.Goals as goal

-- the characters before the first bracket or backslash
abbrev front : List ℕ → List ℕ
front text = take (position_or_len (is_byte2 40 92) text) text

-- the text behind them
abbrev behind_front : List ℕ → List ℕ
behind_front text = drop (position_or_len (is_byte2 40 92) text) text

plain_value : (text : List ℕ) → is_cut (behind_front text) ≡ true → front text ≡ value_before text
plain_value text cut = sym ((plain_front text).0 ∙ ap (λ (x : List ℕ). front text ++ x) (value_none (behind_front text) cut) ∙ append-nil (front text))

plain_rest : (text : List ℕ) → is_cut (behind_front text) ≡ true → text ≡ written_value (value_before text) ++ behind_front text
plain_rest text cut = (plain_front text).1 ∙ ap (λ (x : List ℕ). written_value x ++ behind_front text) (plain_value text cut)

whole_rest : (text rest : List ℕ) → behind_front text ≡ written_value (value_before (behind_front text)) ++ rest
    → text ≡ written_value (value_before text) ++ rest
whole_rest text rest e =
    let front_of = front text in
    let last = value_before (behind_front text) in
    let joined : written_value front_of ++ (written_value last ++ rest) ≡ written_value (front_of ++ last) ++ rest = rw (flat_map-append written_character front_of last) (sym (append_assoc (written_value front_of) (written_value last) rest)) in
    (plain_front text).1 ∙ ap (λ (x : List ℕ). written_value front_of ++ x) e ∙ joined ∙ ap (λ (x : List ℕ). written_value x ++ rest) (sym (plain_front text).0)

pub returns-then-is_cut : goal.returns-then-is_cut
returns-then-is_cut c =
    let text = c.args.text.now in
    let first : c.split_at.result.0.now ≡ front text = rw c.plain_len.ensures.len at c.split_at.ensures.front in
    let behind : c.split_at.result.1.now ≡ behind_front text = rw c.plain_len.ensures.len at c.split_at.ensures.back in
    let cut : is_cut c.split_at.result.1.now ≡ true = sym c.is_cut.ensures ∙ c.if-is_cut.true in
    let there = rw behind at cut in
    record {
      value = c.lent.ensures ∙ first ∙ plain_value text there;
      rest = plain_rest text there ∙ ap (λ (x : List ℕ). written_value (value_before text) ++ x) (sym behind);
      cut = cut;
    }

pub returns-clause-value : goal.returns-clause-value
returns-clause-value c =
    let text = c.args.text.now in
    let first : c.split_at.result.0.now ≡ front text = rw c.plain_len.ensures.len at c.split_at.ensures.front in
    let behind : c.split_at.result.1.now ≡ behind_front text = rw c.plain_len.ensures.len at c.split_at.ensures.back in
    c.from.ensures ∙ rw (c.in_ok-value.ensures, first, behind) at c.in_ok-rest.ensures.value ∙ sym (plain_front text).0

pub returns-clause-rest : goal.returns-clause-rest
returns-clause-rest c =
    let behind : c.split_at.result.1.now ≡ behind_front c.args.text.now = rw c.plain_len.ensures.len at c.split_at.ensures.back in
    whole_rest c.args.text.now c.in_ok-rest.rest.now (rw behind at c.in_ok-rest.ensures.rest)
