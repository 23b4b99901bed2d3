-- Trees of texts, arrays and objects whose names ascend: their text is UTF-8 and is read as the same tree.
use Rattle.std.proofs.Common.{◌≡◌, ◌≤◌, ℕ, List, [], ◌∷◌, Bool, true, false, Option, Some, Ordering, Less, Equal, Greater, refl, sym, ap, ◌∙◌, append-nil}
use Rattle.std.specs.Prelude.{⊤, option_and_then, option_map}
use Rattle.std.specs.Cmp.Lexicographic.{slice_cmp}
use Rattle.std.specs.Ordering.{match_ordering, nat_cmp, ordering_reverse}
use Rattle.std.specs.Str.{IsUtf8}
use Rattle.std.proofs.lemmas.Cmp.{nat_list_cmp_total}
use Rattle.std.proofs.lemmas.Str.{IsUtf8-append, IsUtf8-nil}
use Rattle.json.specs.Token.{Token}
use Rattle.json.specs.Lex.{tokens}
use Rattle.json.specs.Json as json
use Rattle.json.specs.Tree as tree
use Rattle.json.proofs.Printed.Tokens.{tokens-print}
use Rattle.json.proofs.Printed.Trees.{ArePrintable-json_tokens, value-json_tokens}
use Rattle.json.proofs.Printed.Utf8.{IsUtf8-are_ascii, IsUtf8-quoted}
use Rattle.serde_json.specs.Data.{Data, null, boolean, number, string, array, object, Items, no_items, item, Members, no_members, member, put, depth, items_depth, members_depth}
use Rattle.serde_json.specs.Read.{max_depth, of_items, of_json, of_members, read}
use Rattle.serde_json.specs.Written.{comma_if, compact_text, items_outline, items_text, members_outline, members_text, outline}
use Rattle.serde_json.proofs.Texts.{print-outline}
use Rattle.gs_json.specs.Answers.{names_of_members}
use Rattle.gs_json.proofs.PutMembers.{IsBelowAll, below_put, below_trans}

abbrev mutual
  pub IsPlain : Data → Type 0
  IsPlain null = ⊥
  IsPlain (boolean b) = ⊥
  IsPlain (number n) = ⊥
  IsPlain (string s) = IsUtf8 s
  IsPlain (array ds) = ArePlain ds
  IsPlain (object ms) = HavePlain ms

  pub ArePlain : Items → Type 0
  ArePlain no_items = ⊤
  ArePlain (item d ds) = IsPlain d × ArePlain ds

  pub HavePlain : Members → Type 0
  HavePlain no_members = ⊤
  HavePlain (member k d ms) = IsUtf8 k × IsPlain d × IsBelowAll k ms × HavePlain ms

-- ---- the text is UTF-8

comma_utf8 : (later : Bool) → IsUtf8 (comma_if later)
comma_utf8 true = IsUtf8-are_ascii (44 ∷ []) refl
comma_utf8 false = IsUtf8-nil

mutual
  pub text_utf8 : (d : Data) → IsPlain d → IsUtf8 (compact_text d)
  text_utf8 null h = absurd h
  text_utf8 (boolean b) h = absurd h
  text_utf8 (number n) h = absurd h
  text_utf8 (string s) h = IsUtf8-quoted s h
  text_utf8 (array ds) h = IsUtf8-append (91 ∷ []) (items_text false ds) (IsUtf8-are_ascii (91 ∷ []) refl) (items_utf8 false ds h)
  text_utf8 (object ms) h = IsUtf8-append (123 ∷ []) (members_text false ms) (IsUtf8-are_ascii (123 ∷ []) refl) (members_utf8 false ms h)

  items_utf8 : (later : Bool) (ds : Items) → ArePlain ds → IsUtf8 (items_text later ds)
  items_utf8 later no_items h = IsUtf8-are_ascii (93 ∷ []) refl
  items_utf8 later (item d ds) h =
      IsUtf8-append (comma_if later) _ (comma_utf8 later) (IsUtf8-append (compact_text d) (items_text true ds) (text_utf8 d h.0) (items_utf8 true ds h.1))

  members_utf8 : (later : Bool) (ms : Members) → HavePlain ms → IsUtf8 (members_text later ms)
  members_utf8 later no_members h = IsUtf8-are_ascii (125 ∷ []) refl
  members_utf8 later (member k d ms) h =
      let value = IsUtf8-append (compact_text d) (members_text true ms) (text_utf8 d h.1) (members_utf8 true ms h.3) in
      let named = IsUtf8-append (58 ∷ []) _ (IsUtf8-are_ascii (58 ∷ []) refl) value in
      IsUtf8-append (comma_if later) _ (comma_utf8 later) (IsUtf8-append _ _ (IsUtf8-quoted k h.0) named)

-- ---- the tree is read

-- members, and then others
abbrev join : Members → Members → Members
join no_members ms = ms
join (member l e found) ms = member l e (join found ms)

-- each name is below all others
abbrev AreBelow : Members → Members → Type 0
AreBelow no_members ms = ⊤
AreBelow (member l e found) ms = IsBelowAll l ms × AreBelow found ms

join_none : (found : Members) → found ≡ join found no_members
join_none no_members = refl
join_none (member l e found) = ap (member l e) (join_none found)

join_more : (found ms : Members) (k : List ℕ) (d : Data) → join (join found (member k d no_members)) ms ≡ join found (member k d ms)
join_more no_members ms k d = refl
join_more (member l e found) ms k d = ap (member l e) (join_more found ms k d)

put_end : (found ms : Members) (k : List ℕ) (d : Data) → AreBelow found (member k d ms) → put k d found ≡ join found (member k d no_members)
put_end no_members ms k d h = refl
put_end (member l e found) ms k d h =
    let above : slice_cmp nat_cmp k l ≡ Greater = nat_list_cmp_total.antisymm k l ∙ ap ordering_reverse h.0.0 in
    rw above (ap (member l e) (put_end found ms k d h.1))

below_more : (found ms : Members) (k : List ℕ) (d : Data) → AreBelow found (member k d ms) → IsBelowAll k ms → AreBelow (join found (member k d no_members)) ms
below_more no_members ms k d h own = (own, tt)
below_more (member l e found) ms k d h own = (h.0.1, below_more found ms k d h.1 own)

mutual
  of_outline : (d : Data) → IsPlain d → of_json (outline d) ≡ Some d
  of_outline null h = absurd h
  of_outline (boolean b) h = absurd h
  of_outline (number n) h = absurd h
  of_outline (string s) h = refl
  of_outline (array ds) h = ap (option_map array) (of_items_outline ds h)
  of_outline (object ms) h = ap (option_map object) (of_members_outline ms no_members h tt)

  of_items_outline : (ds : Items) → ArePlain ds → of_items (items_outline ds) ≡ Some ds
  of_items_outline no_items h = refl
  of_items_outline (item d ds) h = rw (of_outline d h.0, of_items_outline ds h.1) refl

  of_members_outline : (ms found : Members) → HavePlain ms → AreBelow found ms → of_members (members_outline ms) found ≡ Some (join found ms)
  of_members_outline no_members found h below = ap Some (join_none found)
  of_members_outline (member k d ms) found h below =
      let next = of_members_outline ms (join found (member k d no_members)) h.3 (below_more found ms k d below h.2) in
      rw (of_outline d h.1, put_end found ms k d below, ← join_more found ms k d) next

mutual
  has_numbers : (d : Data) → IsPlain d → tree.HasNumbers (outline d)
  has_numbers null h = absurd h
  has_numbers (boolean b) h = absurd h
  has_numbers (number n) h = absurd h
  has_numbers (string s) h = tt
  has_numbers (array ds) h = items_have_numbers ds h
  has_numbers (object ms) h = members_have_numbers ms h

  items_have_numbers : (ds : Items) → ArePlain ds → tree.ItemsHaveNumbers (items_outline ds)
  items_have_numbers no_items h = tt
  items_have_numbers (item d ds) h = (has_numbers d h.0, items_have_numbers ds h.1)

  members_have_numbers : (ms : Members) → HavePlain ms → tree.MembersHaveNumbers (members_outline ms)
  members_have_numbers no_members h = tt
  members_have_numbers (member k d ms) h = (has_numbers d h.1, members_have_numbers ms h.3)

mutual
  same_depth : (d : Data) → tree.depth (outline d) ≡ depth d
  same_depth null = refl
  same_depth (boolean b) = refl
  same_depth (number n) = refl
  same_depth (string s) = refl
  same_depth (array ds) = rw (same_items_depth ds) refl
  same_depth (object ms) = rw (same_members_depth ms) refl

  same_items_depth : (ds : Items) → tree.items_depth (items_outline ds) ≡ items_depth ds
  same_items_depth no_items = refl
  same_items_depth (item d ds) = rw (same_depth d, same_items_depth ds) refl

  same_members_depth : (ms : Members) → tree.members_depth (members_outline ms) ≡ members_depth ms
  same_members_depth no_members = refl
  same_members_depth (member k d ms) = rw (same_depth d, same_members_depth ms) refl

-- the value of tokens
abbrev whole : Option (json.Json × List Token) → Option Data
whole o = option_and_then of_json (option_and_then (λ p. json.if_last p.0 p.1) o)

pub text_reads : (d : Data) → IsPlain d → depth d ≤ max_depth → read (compact_text d) ≡ Some d
text_reads d plain shallow =
    let printed = ap tokens (sym (print-outline d)) ∙ tokens-print (tree.json_tokens (outline d)) (ArePrintable-json_tokens (outline d) (has_numbers d plain)) in
    let deep : tree.depth (outline d) ≤ max_depth = rw (same_depth d) shallow in
    ap whole (ap (json.value max_depth) (printed ∙ sym (append-nil (tree.json_tokens (outline d)))) ∙ value-json_tokens (outline d) max_depth [] deep) ∙ of_outline d plain

-- ---- a member more

plain_by : (o : Ordering) (k l : List ℕ) (d e : Data) (ms : Members) → slice_cmp nat_cmp k l ≡ o → IsUtf8 k → IsPlain d
    → HavePlain (member l e ms) → HavePlain (put k d ms)
    → HavePlain (match_ordering o (member k d (member l e ms)) (member l d ms) (member l e (put k d ms)))
plain_by Less k l d e ms is name own all more = (name, own, (is, below_trans k l (names_of_members ms) is all.2), all)
plain_by Equal k l d e ms is name own all more = (all.0, own, all.2, all.3)
plain_by Greater k l d e ms is name own all more =
    let below : slice_cmp nat_cmp l k ≡ Less = nat_list_cmp_total.antisymm l k ∙ ap ordering_reverse is in
    (all.0, all.1, below_put l k d ms below all.2, more)

pub plain_put : (k : List ℕ) (d : Data) (ms : Members) → IsUtf8 k → IsPlain d → HavePlain ms → HavePlain (put k d ms)
plain_put k d no_members name own all = (name, own, tt, tt)
plain_put k d (member l e ms) name own all = plain_by (slice_cmp nat_cmp k l) k l d e ms refl name own all (plain_put k d ms name own all.3)
