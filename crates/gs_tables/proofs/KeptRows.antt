-- Facts of rows that no rule rejects.
use Rattle.std.proofs.Common.{◌≡◌, ℕ, zero, suc, ◌+◌, ◌-◌, ◌<◌, ◌≤◌, ◌&&◌, nat_le, nat_lt, not, Bool, true, false, List, [], ◌∷◌, ◌++◌, length, take, map, position, Option, Some, None, slice_get, get_or, refl, sym, ◌∙◌, arith, option_map}
use Rattle.std.specs.Prelude.{option_to_list, IsSome, All}
use Rattle.std.specs.List.{flat_map, find, list_any}
use Rattle.std.specs.Option.{option_map_or}
use Rattle.std.proofs.lemmas.Bool.Decides.{nat_tests}
use Rattle.std.proofs.lemmas.List.Elements.{All-map}
use Rattle.gs_chars.proofs.TruthsAndLists.{nil_parts, read_at, some_passes}
use Rattle.gs_ai.specs.declared.row.AiRow.{AiRow}
use Rattle.gs_ai.specs.Tables.{is_key}
use Rattle.gs_ai.specs.Values.{has_code}
use Rattle.gs_ai.proofs.RuleLemmas.{none_at}
use Rattle.gs_grammar.specs.declared.item.Item.{Item}
use Rattle.gs_grammar.specs.Items.{is_bad, is_between, size_of_all}
use Rattle.gs_grammar.specs.Levels.{KeepBounds, OptionForm}
use Rattle.gs_grammar.specs.Limits.{most_symbols}
use Rattle.gs_tables_document.specs.declared.document.KindRow.{KindRow}
use Rattle.gs_tables_document.specs.declared.document.OptionRow.{OptionRow}
use Rattle.gs_tables_document.specs.declared.error.LimitName.TheVariants.{Size}
use Rattle.gs_tables_document.specs.declared.error.LoadFault.{LoadFault}
use Rattle.gs_tables_document.specs.declared.error.LoadFault.TheVariants.{BadItem, BadKind, Duplicate, Limit, Mismatch}
use Rattle.gs_tables_document.specs.declared.document.Field.TheVariants.{Gcp, Rest, Piece, Total, Serial}
use Rattle.gs_tables_document.specs.declared.document.LevelName.{LevelName}
use Rattle.gs_tables_document.specs.Documents.{is_bits}
use Rattle.gs_tables_document.specs.Items.{FieldItem}
use Rattle.gs_tables.specs.declared.form.KeyForm.{KeyForm}
use Rattle.gs_tables.specs.declared.form.KeyForm.TheVariants.{Digits, Characters}
use Rattle.gs_tables.specs.Forms.{form_at, further_at, further_of, key_form, serial_at, serial_room}
use Rattle.gs_tables.specs.KeptRules.{KeptKind}
use Rattle.gs_chars.specs.Characters.{are_visible}
use Rattle.gs_chars.specs.Answers.{error_if}
use Rattle.gs_tables.specs.Rules.{are_fields_of, fits_form, fits_key, fits_kind, has_key, has_name, has_no_value, is_digits, is_gcp, is_kind, is_lead, is_new_name, is_one, is_serial_of, items_of_field, keeps_form, keeps_further, keeps_gcp, keeps_level, keeps_rest, keeps_serial, lacks_field}
use Rattle.gs_tables.specs.Tables.{fits, is_bad_item, is_same, items_alone, items_there, kind_of, kind_rejections, kinds_rejections, level_rejections, option_form, option_rejections}
use Rattle.gs_chars.proofs.Searches.{cons_none, find_at_place, find_none, position-cons, position_some}
use Rattle.std.proofs.lemmas.Bool.{and_parts, or_parts, not-false}

-- ---- parts of rejections

pub not_rejected : (test : Bool) (error : LoadFault) → error_if (not test) error ≡ [] → test ≡ true
not_rejected true error h = refl
not_rejected false error h = absurd (let g : error ∷ [] ≡ [] = h in cc)

within_limit : (size most : ℕ) (error : LoadFault) → error_if (nat_lt most size) error ≡ [] → size ≤ most
within_limit size most error h = by (nat_lt most size) refl h
  where
    by : (b : Bool) → nat_lt most size ≡ b → error_if b error ≡ [] → size ≤ most
    by true e h = absurd (let g : error ∷ [] ≡ [] = h in cc)
    by false e h = grind (arith, nat_tests)

pub none_listed : {X Y : Type 0} (f : X → Y) (o : Option X) → option_to_list (option_map f o) ≡ [] → o ≡ None
none_listed f None h = refl
none_listed f (Some x) h = absurd (let g : f x ∷ [] ≡ [] = h in cc)

-- ---- kinds

further_is : (ais : List AiRow) (key : List ℕ) (row : AiRow) (form : KeyForm) → find (has_code key) ais ≡ Some row
    → key_form row.parts ≡ Some form → further_at ais key ≡ further_of form
further_is ais key row form found formed = rw (found, formed) refl

kind_kept : (ais : List AiRow) (earlier : List KindRow) (kind : KindRow) → is_kind ais earlier kind ≡ true → KeptKind ais (kind_of ais kind)
unfolding is_kind
kind_kept ais earlier kind h =
    let parts = and_parts (is_new_name earlier kind.name && not (list_any (has_key kind.key) earlier)) (option_map_or (λ row. fits_key ais row kind) (find (has_code kind.key) ais) false) h in
    let row = some_passes (λ row. fits_key ais row kind) (find (has_code kind.key) ais) parts.1 in
    let key = and_parts (is_key row.0.role) (option_map_or (fits_form ais row.0 kind) (key_form row.0.parts) false) row.2 in
    let form = some_passes (fits_form ais row.0 kind) (key_form row.0.parts) key.1 in
    let whole = and_parts (is_lead form.0 kind.lead && is_serial_of ais row.0 form.0 (serial_at kind.serial)) (are_fields_of form.0 kind.fields) form.2 in
    let fit = and_parts (is_lead form.0 kind.lead) (is_serial_of ais row.0 form.0 (serial_at kind.serial)) whole.0 in
    record { row = row.0; form = form.0; found = row.1; key = key.0; formed = form.1; lead = fit.0; serial = fit.1; further = further_is ais kind.key row.0 form.0 row.1 form.1 }

-- a row of kinds that no rule rejects
pub kind_at : (ais : List AiRow) (kinds : List KindRow) (i : ℕ) (kind : KindRow) → kinds_rejections ais kinds ≡ []
    → slice_get kinds i ≡ Some kind → KeptKind ais (kind_of ais kind)
unfolding kinds_rejections
kind_at ais kinds i kind none at =
    let zero_plus : 0 + i ≡ i = omega arith in
    let here = none_at (kind_rejections ais kinds) 0 kinds none i kind at in
    let row : kind_rejections ais kinds (i, kind) ≡ [] = rw zero_plus at here in
    kind_kept ais (take i kinds) kind (not_rejected (is_kind ais (take i kinds) kind) (BadKind i) row)

lead_short : (form : KeyForm) (lead : ℕ) → is_lead form lead ≡ true → lead ≤ 1
lead_short (Digits _ _) lead h = grind (arith, nat_tests)
lead_short (Characters _) lead h = grind (arith, nat_tests)

-- its lead digits
pub lead_kept : (ais : List AiRow) (kinds : List KindRow) (i : ℕ) (kind : KindRow) → kinds_rejections ais kinds ≡ [] → i < length kinds
    → kind ≡ get_or kinds i kind → kind.lead ≤ 1
lead_kept ais kinds i kind none low read =
    let kept = kind_at ais kinds i kind none (read_at kinds i kind low read) in
    lead_short kept.form kind.lead kept.lead

-- ---- a found item has an index

pub placed : {X : Type 0} (test : X → Bool) (xs : List X) (x : X) → find test xs ≡ Some x → (i : ℕ) × (position test xs ≡ Some i) × (slice_get xs i ≡ Some x)
placed test xs x found = by (position test xs) refl
  where
    by : (place : Option ℕ) → position test xs ≡ place → (i : ℕ) × (position test xs ≡ Some i) × (slice_get xs i ≡ Some x)
    by None e = absurd (let g : None ≡ Some x = sym (find_none test xs e) ∙ found in cc)
    by (Some i) e =
        let at = position_some test xs i e in
        let same : Some at.0 ≡ Some x = sym (find_at_place test xs i at.0 e at.1) ∙ found in
        (i, e, at.1 ∙ same)

-- ---- options

-- the fields of an option's items fit a kind whose key is of this form
pub record KeptFields (ais : List AiRow) (kind : KindRow) (n : ℕ) (items : List FieldItem) (form : KeyForm) : Type 0 where
  pub gcp : keeps_gcp form kind.lead n (items_of_field Gcp items) ≡ true
  pub rest : keeps_rest form n (items_of_field Rest items) ≡ true
  pub serial : keeps_serial (serial_room ais form (serial_at kind.serial)) (items_of_field Serial items) ≡ true
  pub further : keeps_further form (items_of_field Piece items) (items_of_field Total items) ≡ true

fields_kept : (ais : List AiRow) (kind : KindRow) (n : ℕ) (items : List FieldItem) (form : KeyForm)
    → keeps_form ais kind n items form ≡ true → KeptFields ais kind n items form
unfolding keeps_form
fields_kept ais kind n items form h =
    let serial = keeps_serial (serial_room ais form (serial_at kind.serial)) (items_of_field Serial items) in
    let further = keeps_further form (items_of_field Piece items) (items_of_field Total items) in
    let whole = and_parts (keeps_gcp form kind.lead n (items_of_field Gcp items) && keeps_rest form n (items_of_field Rest items)) (serial && further) h in
    let behind = and_parts serial further whole.1 in
    let parts = and_parts (keeps_gcp form kind.lead n (items_of_field Gcp items)) (keeps_rest form n (items_of_field Rest items)) whole.0 in
    record { gcp = parts.0; rest = parts.1; serial = behind.0; further = behind.1 }

-- the option of a row
pub record KeptRow (ais : List AiRow) (kinds : List KindRow) (level : LevelName) (row : OptionRow) : Type 0 where
  pub kind : KindRow
  pub named : find (has_name row.kind) kinds ≡ Some kind
  pub bounds : KeepBounds (is_bits level) (items_alone row)
  pub beside : (k : ℕ) (item : Item) → slice_get (items_there row) k ≡ Some (None, item) → has_no_value item ≡ true
  pub visible : are_visible row.encoding ≡ true
  pub of_level : keeps_level level row.encoding (items_there row) ≡ true
  pub form : KeyForm
  pub formed : form_at ais kind.key ≡ Some form
  pub fields : KeptFields ais kind row.gcp (items_there row) form

pub none_first : {X : Type 0} (test : X → Bool) (x : X) (xs : List X) → test x ≡ false → position test xs ≡ None → position test (x ∷ xs) ≡ None
none_first test x xs first rest = rw (position-cons test x xs, first, rest) refl

none_bad : (bits : Bool) (xs : List (Option FieldItem)) → position (is_bad_item bits) xs ≡ None
    → position (is_bad bits) (map (λ (i : FieldItem). i.1) (flat_map option_to_list xs)) ≡ None
none_bad bits [] h = refl
none_bad bits (None ∷ xs) h = let g = cons_none (is_bad_item bits) None xs h in absurd (let k : true ≡ false = g.0 in cc)
none_bad bits (Some x ∷ xs) h =
    let g = cons_none (is_bad_item bits) (Some x) xs h in
    let good = or_parts (is_bad bits x.1) (lacks_field x) g.0 in
    none_first (is_bad bits) x.1 (map (λ (i : FieldItem). i.1) (flat_map option_to_list xs)) good.0 (none_bad bits xs g.1)

none_lacks : (bits : Bool) (xs : List (Option FieldItem)) → position (is_bad_item bits) xs ≡ None → (k : ℕ) (item : Item)
    → slice_get (flat_map option_to_list xs) k ≡ Some (None, item) → has_no_value item ≡ true
none_lacks bits [] h k item at = absurd (let e : None ≡ Some (None, item) = at in cc)
none_lacks bits (None ∷ xs) h k item at = none_lacks bits xs (cons_none (is_bad_item bits) None xs h).1 k item at
none_lacks bits (Some x ∷ xs) h zero item at =
    let good = or_parts (is_bad bits x.1) (lacks_field x) (cons_none (is_bad_item bits) (Some x) xs h).0 in
    let same : x ≡ (None, item) = cc in
    let kept : lacks_field (None, item) ≡ false = rw same at good.1 in
    not-false (has_no_value item) kept
none_lacks bits (Some x ∷ xs) h (suc k) item at = none_lacks bits xs (cons_none (is_bad_item bits) (Some x) xs h).1 k item at

-- the conditions that the rules of an option's kind set
record KeptOfKind (ais : List AiRow) (kind : KindRow) (level : LevelName) (encoding : List ℕ) (n : ℕ) (items : List FieldItem) : Type 0 where
  visible : are_visible encoding ≡ true
  of_level : keeps_level level encoding items ≡ true
  form : KeyForm
  formed : form_at ais kind.key ≡ Some form
  fields : KeptFields ais kind n items form

of_kind_kept : (ais : List AiRow) (kind : KindRow) (level : LevelName) (encoding : List ℕ) (n : ℕ) (items : List FieldItem)
    → fits_kind ais kind level encoding n items ≡ true → KeptOfKind ais kind level encoding n items
unfolding fits_kind
of_kind_kept ais kind level encoding n items h =
    let parts = and_parts (are_visible encoding && keeps_level level encoding items) (option_map_or (keeps_form ais kind n items) (form_at ais kind.key) false) h in
    let named = and_parts (are_visible encoding) (keeps_level level encoding items) parts.0 in
    let form = some_passes (keeps_form ais kind n items) (form_at ais kind.key) parts.1 in
    record { visible = named.0; of_level = named.1; form = form.0; formed = form.1; fields = fields_kept ais kind n items form.0 form.2 }

row_kept : (ais : List AiRow) (kinds : List KindRow) (level : LevelName) (rows : List OptionRow) (i : ℕ) (row : OptionRow)
    → option_rejections ais kinds level rows (i, row) ≡ [] → KeptRow ais kinds level row
unfolding option_rejections fits
row_kept ais kinds level rows i row h =
    let bad = option_to_list (option_map (λ k. BadItem level i k) (position (is_bad_item (is_bits level)) row.items)) in
    let long = error_if (nat_lt most_symbols (size_of_all (items_alone row))) (Limit Size) in
    let misfit = error_if (not (fits ais kinds level row)) (Mismatch level i) in
    let again = option_to_list (option_map (λ j. Duplicate level j i) (position (λ other. is_same other row) (take i rows))) in
    let first = nil_parts (bad ++ long ++ misfit) again h in
    let second = nil_parts (bad ++ long) misfit first.0 in
    let third = nil_parts bad long second.0 in
    let good = none_listed (λ k. BadItem level i k) (position (is_bad_item (is_bits level)) row.items) third.0 in
    let kind = some_passes (λ kind. fits_kind ais kind level row.encoding row.gcp (items_there row)) (find (has_name row.kind) kinds) (not_rejected (fits ais kinds level row) (Mismatch level i) second.1) in
    let kept = of_kind_kept ais kind.0 level row.encoding row.gcp (items_there row) kind.2 in
    record {
      kind = kind.0;
      named = kind.1;
      bounds = record {
        none_bad = none_bad (is_bits level) row.items good;
        small = within_limit (size_of_all (items_alone row)) most_symbols (Limit Size) third.1;
      };
      beside = none_lacks (is_bits level) row.items good;
      visible = kept.visible;
      of_level = kept.of_level;
      form = kept.form;
      formed = kept.formed;
      fields = kept.fields;
    }

-- a row of options that no rule rejects
pub row_at : (ais : List AiRow) (kinds : List KindRow) (level : LevelName) (rows : List OptionRow) (i : ℕ) (row : OptionRow)
    → level_rejections ais kinds level rows ≡ [] → slice_get rows i ≡ Some row → KeptRow ais kinds level row
unfolding level_rejections
row_at ais kinds level rows i row none at =
    let zero_plus : 0 + i ≡ i = omega arith in
    let here = none_at (option_rejections ais kinds level rows) 0 rows none i row at in
    row_kept ais kinds level rows i row (rw zero_plus at here)

-- the conditions for making an option of its row
pub record CanBeMade (kinds : List KindRow) (level : LevelName) (row : OptionRow) : Type 0 where
  pub named : IsSome (position (has_name row.kind) kinds)
  pub gcp : row.gcp ≤ 12
  pub items : KeepBounds (is_bits level) (items_alone row)

gcp_short : (form : KeyForm) (lead n : ℕ) → is_gcp form lead n ≡ true → n ≤ 12
gcp_short (Digits digits _) lead n h = let g = and_parts (is_between 1 12 n) (nat_le n (digits - lead)) h in let k = and_parts (nat_le 1 n)
    (nat_le n 12) g.0 in let m = k.1 in grind (arith, nat_tests)
gcp_short (Characters _) lead n h = let k = and_parts (nat_le 1 n) (nat_le n 12) h in let m = k.1 in grind (arith, nat_tests)

pub gcp_kept : (form : KeyForm) (lead n : ℕ) (items : List FieldItem) → keeps_gcp form lead n (items_of_field Gcp items) ≡ true → n ≤ 12
unfolding keeps_gcp
gcp_kept form lead n items h = gcp_short form lead n (and_parts (is_gcp form lead n) (is_one (is_digits n) (items_of_field Gcp items)) h).0

pub can_be_made : (ais : List AiRow) (kinds : List KindRow) (level : LevelName) (rows : List OptionRow) (i : ℕ) (row : OptionRow)
    → level_rejections ais kinds level rows ≡ [] → i < length rows → row ≡ get_or rows i row → CanBeMade kinds level row
can_be_made ais kinds level rows i row none low read =
    let kept = row_at ais kinds level rows i row none (read_at rows i row low read) in
    let place = placed (has_name row.kind) kinds kept.kind kept.named in
    record { named = rw place.1 refl; gcp = gcp_kept kept.form kept.kind.lead row.gcp (items_there row) kept.fields.gcp; items = kept.bounds }

-- ---- levels

-- the options of rows have the symbols of their level
pub bits_of_all : (bits : Bool) (level : LevelName) (options : List OptionForm) (rows : List OptionRow) → is_bits level ≡ bits
    → options ≡ map (option_form (is_bits level)) rows → All (λ (option : OptionForm). option.bit_level ≡ bits) options
bits_of_all bits level options rows same made =
    let all : All (λ (row : OptionRow). is_bits level ≡ bits) rows = λ k d low. same in
    rw made (All-map (λ (option : OptionForm). option.bit_level ≡ bits) (option_form (is_bits level)) rows all)
