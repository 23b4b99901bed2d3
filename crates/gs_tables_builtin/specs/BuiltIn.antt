-- The built-in rows. Kinds, encodings and the partition table are those of TDS 2.0, sections 6.3, 14.2 and 14.6. The choice of rows
-- is this project's own.
use Rattle.std.specs.Prelude.{ℕ, ◌-◌, ◌^◌, ◌==◌, if◌then◌else◌, Bool, true, false, List, [], ◌∷◌, ◌++◌, map, codes, replicate, Option, Some, None, option_map, option_to_list}
use Rattle.std.specs.List.{flat_map}
use Rattle.gs_tables_builtin.specs.BuiltInAis.{builtin_ais}
use Rattle.gs_bits.specs.Bits.{bits_of}
use Rattle.gs_grammar.specs.declared.item.Item.{Item}
use Rattle.gs_grammar.specs.declared.item.Item.TheVariants.{Lit, Pad, Digits as DigitsItem, Int, Esc, NumPad, Num, NumStr, Ascii7, Fill}
use Rattle.gs_tables_document.specs.declared.document.Document.{Document}
use Rattle.gs_tables_document.specs.declared.document.KindRow.{KindRow}
use Rattle.gs_tables_document.specs.declared.document.OptionRow.{OptionRow}
use Rattle.gs_tables_builtin.specs.declared.encoding.Encoding.{Encoding}
use Rattle.gs_tables_builtin.specs.declared.encoding.Identity.{Identity}
use Rattle.gs_tables_builtin.specs.declared.encoding.Partition.{Partition}
use Rattle.gs_tables_builtin.specs.declared.encoding.RestForm.{RestForm}
use Rattle.gs_tables_builtin.specs.declared.encoding.RestForm.TheVariants.{Digits, InPieces, Number, Characters}
use Rattle.gs_tables_document.specs.declared.document.Field.{Field}
use Rattle.gs_tables_document.specs.declared.document.Field.TheVariants.{Filter, Gcp, Rest, Piece, Total, Serial}
use Rattle.gs_tables_document.specs.Items.{FieldItem}

-- ---- kinds

-- trusted, own: the row of a kind with its key, its lead digits, its serial and its further fields
abbrev pub kind : List ℕ → List ℕ → ℕ → List ℕ → List (List ℕ) → KindRow
kind name key lead serial fields = record { name = name; key = key; lead = lead; serial = serial; fields = fields }

-- trusted, TDS 2.0, section 6.3: the kinds (TDS 2.0, section 6.3)
unfoldable pub builtin_kinds : List KindRow
builtin_kinds =
    kind (codes "sgtin") (codes "01") 1 (codes "21") []
    ∷ kind (codes "sscc") (codes "00") 1 [] []
    ∷ kind (codes "sgln") (codes "414") 0 (codes "254") []
    ∷ kind (codes "grai") (codes "8003") 0 (codes "tail") []
    ∷ kind (codes "giai") (codes "8004") 0 [] []
    ∷ kind (codes "gdti") (codes "253") 0 (codes "tail") []
    ∷ kind (codes "gsrn") (codes "8018") 0 [] []
    ∷ kind (codes "sgcn") (codes "255") 0 (codes "tail") []
    ∷ kind (codes "itip") (codes "8006") 1 (codes "21") (codes "piece" ∷ codes "total" ∷ [])
    ∷ kind (codes "gsrnp") (codes "8017") 0 [] [] ∷ []

-- ---- the partition table: the digits of the prefix, the partition, and the bits of the prefix (TDS 2.0, section 14.2)

-- trusted, own: the row of the partition table with these values
abbrev pub partition : ℕ → ℕ → ℕ → Partition
partition digits number bits = record { digits = digits; number = number; bits = bits }

-- trusted, TDS 2.0, section 14.2: the partition table, from 12 digits to 6
abbrev pub partitions : List Partition
partitions = partition 12 0 40 ∷ partition 11 1 37 ∷ partition 10 2 34 ∷ partition 9 3 30 ∷ partition 8 4 27 ∷ partition 7 5 24 ∷ partition 6 6 20 ∷ []

-- ---- the encodings

-- trusted, own: the encoding of these values: its header, the bits of prefix and rest together, the rest, the serial, and the
-- zeros at the end
abbrev pub encoding : List ℕ → List ℕ → ℕ → ℕ → RestForm → Option Item → Option Item → Encoding
encoding name kind header width rest serial after = record { name = name; kind = kind; header = header; width = width; rest = rest; serial = serial; after = after }

-- trusted, own: the literal of `n` zeros
abbrev pub zeros : ℕ → Item
zeros n = Lit (replicate n 0)

-- trusted, TDS 2.0, section 14.6: the list of all encodings, in the order of the options
unfoldable pub encodings : List Encoding
encodings =
    encoding (codes "sgtin-96") (codes "sgtin") 48 44 (Digits 13) (Some (Num 38 274877906943)) None
    ∷ encoding (codes "sgtin-198") (codes "sgtin") 54 44 (Digits 13) (Some (Ascii7 1 20 140)) (Some (Fill 2 10))
    ∷ encoding (codes "sscc-96") (codes "sscc") 49 58 (Digits 17) None (Some (zeros 24))
    ∷ encoding (codes "sgln-96") (codes "sgln") 50 41 (Digits 12) (Some (Num 41 2199023255551)) None
    ∷ encoding (codes "sgln-195") (codes "sgln") 57 41 (Digits 12) (Some (Ascii7 1 20 140)) (Some (Fill 5 13))
    ∷ encoding (codes "grai-96") (codes "grai") 51 44 (Digits 12) (Some (Num 38 274877906943)) None
    ∷ encoding (codes "grai-170") (codes "grai") 55 44 (Digits 12) (Some (Ascii7 1 16 112)) (Some (Fill 6 6))
    ∷ encoding (codes "giai-96") (codes "giai") 52 82 Number None None
    ∷ encoding (codes "giai-202") (codes "giai") 56 188 Characters None (Some (Fill 6 6))
    ∷ encoding (codes "gdti-96") (codes "gdti") 44 41 (Digits 12) (Some (Num 41 2199023255551)) None
    ∷ encoding (codes "gdti-174") (codes "gdti") 62 41 (Digits 12) (Some (Ascii7 1 17 119)) (Some (Fill 2 2))
    ∷ encoding (codes "gsrn-96") (codes "gsrn") 45 58 (Digits 17) None (Some (zeros 24))
    ∷ encoding (codes "sgcn-96") (codes "sgcn") 63 41 (Digits 12) (Some (NumStr 41 12)) None
    ∷ encoding (codes "itip-110") (codes "itip") 64 44 (InPieces 13) (Some (Num 38 274877906943)) (Some (Fill 2 2))
    ∷ encoding (codes "gsrnp-96") (codes "gsrnp") 46 58 (Digits 17) None (Some (zeros 24)) ∷ []

-- ---- options

-- trusted, own: the item of a field, if there is one
abbrev pub of_field : Option Field → Option Item → List FieldItem
of_field field item = map (λ (i : Item). (field, i)) (option_to_list item)

-- trusted, own: the reference for a company prefix of n digits, in that many bits
abbrev pub rest_in_bits : RestForm → ℕ → ℕ → FieldItem
rest_in_bits (Digits d) n bits = if d - n == 0 then (None, zeros bits) else (Some Rest, NumPad bits (d - n))
rest_in_bits (InPieces d) n bits = if d - n == 0 then (None, zeros bits) else (Some Rest, NumPad bits (d - n))
rest_in_bits Number n bits = (Some Rest, Num bits (2 ^ bits - 1))
rest_in_bits Characters n bits = (Some Rest, Ascii7 1 (30 - n) bits)

-- trusted, TDS 2.0, section 14.6: the piece and the total after the reference, if the kind has them, in 7 bits each
abbrev pub pieces_in_bits : RestForm → List FieldItem
pieces_in_bits (Digits _) = []
pieces_in_bits (InPieces _) = (Some Piece, NumPad 7 2) ∷ (Some Total, NumPad 7 2) ∷ []
pieces_in_bits Number = []
pieces_in_bits Characters = []

-- trusted, TDS 2.0, sections 14.2 and 14.6: the list of header, filter, partition, prefix, rest, piece and total, serial, and
-- the zeros at the end
abbrev pub binary_items : Encoding → Partition → List FieldItem
binary_items e p =
    (None, Lit (bits_of 8 e.header)) ∷ (Some Filter, Num 3 7) ∷ (None, Lit (bits_of 3 p.number)) ∷ (Some Gcp, NumPad p.bits p.digits)
    ∷ rest_in_bits e.rest p.digits (e.width - p.bits)
    ∷ pieces_in_bits e.rest ++ of_field (Some Serial) e.serial ++ of_field None e.after

-- trusted, own: the item of a text level for one of a bit level
abbrev pub in_text : Item → Item
in_text (NumPad bits n) = Pad n
in_text (Num bits most) = Int most
in_text (NumStr bits hi) = DigitsItem 1 hi
in_text (Ascii7 lo hi bits) = Esc lo hi
in_text other = other

-- trusted, own: the list of a dot and the item of `field`
abbrev pub dotted : Field → Item → List FieldItem
dotted field i = (None, Lit (codes ".")) ∷ (Some field, i) ∷ []

-- trusted, own: the piece and the total after the reference of a text, if the kind has them, of two digits each
abbrev pub pieces_in_text : RestForm → List FieldItem
pieces_in_text (Digits _) = []
pieces_in_text (InPieces _) = dotted Piece (Pad 2) ++ dotted Total (Pad 2)
pieces_in_text Number = []
pieces_in_text Characters = []

-- trusted, own: the items after the company prefix: the reference, the piece and the total, and the serial, each after a dot. A
-- reference of no digits, which no key with pieces has, leaves two dots
abbrev pub behind_prefix : FieldItem → List FieldItem → Option Item → List FieldItem
behind_prefix (None, _) pieces serial = (None, Lit (codes "..")) ∷ of_field (Some Serial) serial
behind_prefix (Some field, rest) pieces serial = dotted Rest rest ++ pieces ++ flat_map (dotted Serial) (option_to_list serial)

-- trusted, own: the item of a text level for an item of bits, for the same field
abbrev pub in_text_too : FieldItem → FieldItem
in_text_too i = (i.0, in_text i.1)

-- trusted, TDS 2.0, sections 12 and 6.3: the list of `urn:epc:tag:ENCODING:`, filter value, company prefix, and the items after
-- it
abbrev pub tag_items : Encoding → Partition → List FieldItem
tag_items e p =
    (None, Lit (codes "urn:epc:tag:" ++ e.name ++ codes ":")) ∷ (Some Filter, Int 7) ∷ (None, Lit (codes ".")) ∷ (Some Gcp, Pad p.digits)
    ∷ behind_prefix (in_text_too (rest_in_bits e.rest p.digits (e.width - p.bits))) (pieces_in_text e.rest) (option_map in_text e.serial)

-- trusted, own: the pure identity of a kind: its name, the form of the rest, and the serial
abbrev pub identity : List ℕ → RestForm → Option Item → Identity
identity name rest serial = record { name = name; rest = rest; serial = serial }

-- trusted, TDS 2.0, section 6.3: the pure identities of all kinds
unfoldable pub identities : List Identity
identities =
    identity (codes "sgtin") (Digits 13) (Some (Esc 1 20))
    ∷ identity (codes "sscc") (Digits 17) None
    ∷ identity (codes "sgln") (Digits 12) (Some (Esc 1 20))
    ∷ identity (codes "grai") (Digits 12) (Some (Esc 1 16))
    ∷ identity (codes "giai") Characters None
    ∷ identity (codes "gdti") (Digits 12) (Some (Esc 1 17))
    ∷ identity (codes "gsrn") (Digits 17) None
    ∷ identity (codes "sgcn") (Digits 12) (Some (DigitsItem 1 12))
    ∷ identity (codes "itip") (InPieces 13) (Some (Esc 1 20))
    ∷ identity (codes "gsrnp") (Digits 17) None ∷ []

-- trusted, TDS 2.0, sections 12 and 6.3: the list of `urn:epc:id:KIND:`, company prefix, and the items after it
abbrev pub pure_items : Identity → Partition → List FieldItem
pure_items k p =
    (None, Lit (codes "urn:epc:id:" ++ k.name ++ codes ":")) ∷ (Some Gcp, Pad p.digits)
    ∷ behind_prefix (in_text_too (rest_in_bits k.rest p.digits 0)) (pieces_in_text k.rest) k.serial

-- trusted, own: the row of an option of a partition, with its kind, its encoding, and its items as a document has them
abbrev pub row_with : List ℕ → List ℕ → Partition → List (Option FieldItem) → OptionRow
row_with kind encoding p items = record { kind = kind; encoding = encoding; gcp = p.digits; items = items }

-- trusted, own: the option of a kind and an encoding for a company prefix length
abbrev pub option_row : List ℕ → List ℕ → Partition → List FieldItem → OptionRow
option_row kind encoding p items = row_with kind encoding p (map Some items)

-- trusted, own: the items of an option of an encoding for a length of the prefix, of tag bits or of tag URIs
abbrev pub encoded_items : Bool → Encoding → Partition → List FieldItem
encoded_items true e p = binary_items e p
encoded_items false e p = tag_items e p

-- trusted, own: the option of an encoding for a length of the prefix, of tag bits or of tag URIs
abbrev pub encoded_row : Bool → Encoding → Partition → OptionRow
encoded_row bits e p = option_row e.kind e.name p (encoded_items bits e p)

-- trusted, own: the options of an encoding, of tag bits or of tag URIs
abbrev pub encoded_rows : Bool → Encoding → List OptionRow
encoded_rows bits e = map (encoded_row bits e) partitions

-- trusted, own: the option of pure identity URIs of a kind for a length of the prefix
abbrev pub pure_row : Identity → Partition → OptionRow
pure_row k p = option_row k.name [] p (pure_items k p)

-- trusted, own: the options of pure identity URIs of a kind
abbrev pub pure_rows : Identity → List OptionRow
pure_rows k = map (pure_row k) partitions

-- ---- numbers that 64 bits hold, as the code has them

-- trusted, own choice: the rows of the built-in tables
abbrev pub builtin_document : Document
builtin_document = record {
  version = 2;
  ais = builtin_ais;
  kinds = builtin_kinds;
  binary = flat_map (encoded_rows true) encodings;
  tag = flat_map (encoded_rows false) encodings;
  pure = flat_map pure_rows identities;
}
