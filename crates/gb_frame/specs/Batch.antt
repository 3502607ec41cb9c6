-- The texts of items without a packet round them: the content of a frame.
use Rattle.std.specs.Prelude.{◌≡◌, ℕ, zero, suc, ◌<◌, ◌≤◌, List, [], ◌∷◌, length, All, Option, Some, None}
use Rattle.gb_types.specs.declared.{limits.TheConstants.PAYLOAD, version.Version.Version}
use Rattle.gb_types.specs.Common.{limits_of}
use Rattle.gb_frame.specs.declared.{item.Item.Item, limits.TheConstants.ROOM}
use Rattle.gb_frame.specs.Reading.{item_at}
use Rattle.gb_frame.specs.Room.{room_of}
use Rattle.gb_frame.specs.Spelling.{AreTexts, items_text}

abbrev pub first_and : (List ℕ → List Item) → Option (Item × List ℕ) → List Item
first_and others None = []
first_and others (Some x) = x.0 ∷ others x.1

-- up to n items, read one after another from the front of the bytes; reading ends before bytes that do not begin with an item whose payload has at most PAYLOAD bytes
unfoldable pub items_from : Version → ℕ → List ℕ → List Item
items_from version zero bytes = []
items_from version (suc n) bytes = first_and (items_from version n) (item_at version PAYLOAD bytes)

-- the items with these texts
abbrev pub batch_in : Version → List ℕ → List Item
batch_in version bytes = items_from version (length bytes) bytes

-- these bytes are the texts of one or more items of the version, and at most as many as a packet of any version has room for
pub record IsBatch (version : Version) (bytes : List ℕ) : Type 0 where
  pub texts : AreTexts version bytes (batch_in version bytes)
  pub some : 0 < length bytes
  pub room : length bytes ≤ ROOM

-- the items fit a packet of a version: each payload is within its limit, and there is room for them
pub record FitPacket (version : Version) (items : List Item) : Type 0 where
  pub payloads : All (λ i. length i.payload ≤ (limits_of version).payload) items
  pub room : length (items_text version items) ≤ room_of version

-- texts determine their items
abbrev pub TextsTellItems : Type 0
TextsTellItems = (version : Version) (bytes : List ℕ) (items : List Item) → AreTexts version bytes items → batch_in version bytes ≡ items
