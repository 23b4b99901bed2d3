-- Definitions for proofs and private functions, in addition to BuiltIn.antt.
use Rattle.std.specs.Prelude.{◌≡◌, ℕ, ◌-◌, nat_le, Bool, true, false, List, [], ◌∷◌, ◌++◌, codes, drop, take, Option, Some, None, option_map}
use Rattle.std.specs.Borrow.{Bor}
use Rattle.std.specs.List.{flat_map, list_all}
use Rattle.gs_tables_builtin.specs.BuiltInAis.{builtin_ais}
use Rattle.gs_bits.specs.Bits.{bits_of}
use Rattle.gs_grammar.specs.declared.item.Item.{Item}
use Rattle.gs_grammar.specs.declared.item.Item.TheVariants.{Lit, Pad, Digits as DigitsItem, Int, Esc, NumPad, Num, NumStr, Ascii7, Fill}
use Rattle.gs_tables_document.specs.declared.document.Document.{Document}
use Rattle.gs_tables_document.specs.declared.document.KindRow.{KindRow}
use Rattle.gs_tables_document.specs.declared.document.OptionRow.{OptionRow}
use Rattle.gs_tables_builtin.specs.declared.encoding.Encoding.{Encoding}
use Rattle.gs_tables_builtin.specs.declared.encoding.Identity.{Identity}
use Rattle.gs_tables_builtin.specs.declared.encoding.Partition.{Partition}
use Rattle.gs_tables_builtin.specs.declared.encoding.RestForm.{RestForm}
use Rattle.gs_tables_builtin.specs.declared.encoding.RestForm.TheVariants.{Digits, InPieces, Number, Characters}
use Rattle.gs_tables_builtin.specs.declared.encoding.EncodingLine.{EncodingLine}
use Rattle.gs_tables_builtin.specs.declared.encoding.ItemLine.{ItemLine}
use Rattle.gs_tables_builtin.specs.declared.encoding.ItemLine.TheVariants as item_line
use Rattle.gs_tables_builtin.specs.declared.encoding.SerialLine.{SerialLine}
use Rattle.gs_tables_builtin.specs.declared.encoding.SerialLine.TheVariants as serial_line
use Rattle.gs_tables_document.specs.declared.document.Field.TheVariants.{Filter, Gcp, Serial}
use Rattle.gs_tables_document.specs.Items.{FieldItem}
use Rattle.gs_tables_builtin.specs.BuiltIn.{kind, builtin_kinds, partitions, encoding, encodings, zeros, of_field, rest_in_bits, pieces_in_bits, pieces_in_text, in_text, behind_prefix, in_text_too, identity, encoded_rows, pure_rows}

-- holds if the list, given by the old and the new one, has gained this row at its end
abbrev pub Gains : {X : Type 0} → List X → List X → X → Type 0
Gains old new row = new ≡ old ++ row ∷ []

-- the further fields of a kind: the piece and the total if it has pieces
abbrev pub fields_known : Bool → List (List ℕ)
fields_known false = []
fields_known true = codes "piece" ∷ codes "total" ∷ []

-- the kind that a line of the code describes
abbrev pub kind_known : Bor (List ℕ) × Bor (List ℕ) × ℕ × Bor (List ℕ) × Bool → KindRow
kind_known line = kind line.0.now line.1.now line.2 line.3.now (fields_known line.4)

-- the item that a line of the code describes, if there is one
abbrev pub item_known : ItemLine → Option Item
item_known item_line.Nothing = None
item_known (item_line.Number bits most) = Some (Num bits most)
item_known (item_line.Count bits hi) = Some (NumStr bits hi)
item_known (item_line.Characters hi bits) = Some (Ascii7 1 hi bits)
item_known (item_line.Fill a b) = Some (Fill a b)
item_known (item_line.Zeros n) = Some (zeros n)

-- the encoding that a line of the code describes
abbrev pub encoding_known : EncodingLine → Encoding
encoding_known l = encoding l.name.now l.kind.now l.header l.width l.rest (item_known l.serial) (item_known l.after)

-- the n encodings from index k
abbrev pub encodings_at : ℕ → ℕ → List Encoding
encodings_at k n = take n (drop k encodings)

-- header, filter, partition and prefix
abbrev pub binary_head : ℕ → Partition → List FieldItem
binary_head header p =
    (None, Lit (bits_of 8 header)) ∷ (Some Filter, Num 3 7) ∷ (None, Lit (bits_of 3 p.number)) ∷ (Some Gcp, NumPad p.bits p.digits) ∷ []

-- rest, piece and total, serial, and the zeros at the end
abbrev pub binary_tail : Encoding → Partition → List FieldItem
binary_tail e p = rest_in_bits e.rest p.digits (e.width - p.bits) ∷ pieces_in_bits e.rest ++ of_field (Some Serial) e.serial ++ of_field None e.after

-- `urn:epc:tag:ENCODING:`, filter and prefix
abbrev pub tag_head : List ℕ → ℕ → List FieldItem
tag_head name digits =
    (None, Lit (codes "urn:epc:tag:" ++ name ++ codes ":")) ∷ (Some Filter, Int 7) ∷ (None, Lit (codes ".")) ∷ (Some Gcp, Pad digits) ∷ []

-- the items of a tag URI after the company prefix
abbrev pub tag_tail : Encoding → Partition → List FieldItem
tag_tail e p = behind_prefix (in_text_too (rest_in_bits e.rest p.digits (e.width - p.bits))) (pieces_in_text e.rest) (option_map in_text e.serial)

-- the serial that a line of the code describes, if there is one
abbrev pub serial_known : SerialLine → Option Item
serial_known serial_line.Nothing = None
serial_known (serial_line.Characters hi) = Some (Esc 1 hi)
serial_known (serial_line.Digits hi) = Some (DigitsItem 1 hi)

-- the pure identity with this serial, if it has one
abbrev pub identity_with : List ℕ → RestForm → SerialLine → Identity
identity_with name rest serial = identity name rest (serial_known serial)

-- the pure identity that a line of the code describes
abbrev pub identity_known : Bor (List ℕ) × RestForm × SerialLine → Identity
identity_known l = identity_with l.0.now l.1 l.2

-- holds if a rest that is a number has at most 64 bits
abbrev pub rest_fits : RestForm → ℕ → Bool
rest_fits (Digits d) bits = true
rest_fits (InPieces d) bits = true
rest_fits Number bits = nat_le bits 64
rest_fits Characters bits = true

-- holds if the rest fits with each company prefix length
abbrev pub rests_fit : Encoding → Bool
rests_fit e = list_all (λ (p : Partition). rest_fits e.rest (e.width - p.bits)) partitions

-- the options of these encodings and identities: binary, tag, pure
abbrev pub options_of : List Encoding → List Identity → List OptionRow × List OptionRow × List OptionRow
options_of these those = (flat_map (encoded_rows true) these, flat_map (encoded_rows false) these, flat_map pure_rows those)

-- the document of the application identifiers, the kinds, and the options of these encodings and identities
abbrev pub document_of : List Encoding → List Identity → Document
document_of these those = record { version = 2; ais = builtin_ais; kinds = builtin_kinds; binary = flat_map (encoded_rows true) these; tag = flat_map (encoded_rows false) these; pure = flat_map pure_rows those }
