-- The rule of the table.
use Rattle.std.specs.Prelude.{◌≡◌, ◌+◌, ◌*◌, ◌<◌, ℕ, List, [], ◌∷◌, ◌++◌, length, zero, suc, replicate, Some, slice_get, remove}
use mathlib.Core.Option.{Option, some}
use mathlib.Core.List.{IsPrefix}
use lib.ListN.{get_elem?}
use Rattle.atomic_table.specs.Seated.{TableId}
use Rattle.span_schema.specs.declared.table.Table.{Table}
use Rattle.span_machine.specs.declared.transaction.Commit.{Commit}
use Rattle.span_mutate.specs.declared.mutation.CheckedMutation.{CheckedMutation}
use Rattle.span_shard.specs.KeyVersions.{KeyVersions}
use Rattle.span_board.specs.declared.begun.Begun.{Begun}
use Rattle.span_board.specs.declared.board.Role.{Role}
use Rattle.span_board.specs.declared.board.Role.TheVariants.{Keeper, Holder, Client}
use Rattle.span_board.specs.declared.board.Change.{Change}
use Rattle.span_board.specs.declared.board.Change.TheVariants.{Grown, Restated}
use Rattle.span_board.specs.Known.{Known, kept, owned, grown, restated}

-- each role has a name: no two seats have one
abbrev pub name_of : Role → ℕ
name_of (Keeper b) = 0
name_of (Holder i vs) = 2 * i + 1
name_of (Client o seen mine) = 2 * o + 2

-- a role agrees with what the rule knows of the journal
abbrev pub Fits : ℕ → Known → Role → Type 0
Fits n known (Keeper b) = b ≡ known
Fits n known (Holder i vs) = (i < length known.slots) × (vs ≡ kept known i)
Fits n known (Client o seen mine) =
    (o < n) × IsPrefix seen known.commits × (owned o seen ≡ mine) × (owned o known.commits ≡ mine)

-- each of these roles fits, and is at this seat alone
abbrev pub FitAll : ℕ → Known → (ℕ → ℕ) → ℕ → List Role → Type 0
FitAll n known seat id [] = Unit {0}
FitAll n known seat id (r ∷ rs) = (seat (name_of r) ≡ id) × Fits n known r × FitAll n known seat id rs

-- each commit has a session as its owner
abbrev pub AllOwned : ℕ → List Commit → Type 0
AllOwned n [] = Unit {0}
AllOwned n (c ∷ cs) = (c.owner < n) × AllOwned n cs

abbrev pub Kept : ℕ → List ℕ → List (List Role) → Type 0
Kept n words views =
    (known : Known) × (seat : ℕ → ℕ)
    × (words ≡ length known.commits ∷ [])
    × AllOwned n known.commits
    × ((id : ℕ) (v : List Role) → get_elem? views id ≡ some v → FitAll n known seat id v)

-- holders of the slots k to k + m, and clients of the owners k to k + m, which know nothing
abbrev pub holders : ℕ → ℕ → List Role
holders k zero = []
holders k (suc m) = Holder k [] ∷ holders (suc k) m

abbrev pub clients : ℕ → ℕ → List Role
clients k zero = []
clients k (suc m) = Client k [] [] ∷ clients (suc k) m

abbrev pub nothing_known : ℕ → Known
nothing_known slots = record { commits = []; slots = replicate slots [] }

-- at first one seat has all roles: n sessions, and m slots
abbrev pub opening_roles : ℕ → ℕ → List Role
opening_roles n m = Keeper (nothing_known m) ∷ (holders 0 m ++ clients 0 n)

abbrev pub first_of : List Role → List Role
first_of [] = []
first_of (r ∷ rs) = r ∷ []

abbrev pub others_of : List Role → List Role
others_of [] = []
others_of (r ∷ rs) = rs

abbrev pub Publishes : List Role → Option Change → List Role → Type 0
Publishes (Keeper b ∷ Client o seen mine ∷ []) (some (Grown c)) w =
    (w ≡ Keeper (grown b c) ∷ Client o (b.commits ++ c ∷ []) (mine ++ c ∷ []) ∷ [])
    × IsPrefix seen b.commits × (owned o seen ≡ mine) × (owned o b.commits ≡ mine)
Publishes v x w = Unit {0}

abbrev pub Looks : List Role → ℕ → List Role → Type 0
Looks (Client o seen mine ∷ []) n w =
    (now : List Commit) × (w ≡ Client o now mine ∷ []) × IsPrefix seen now × (length now ≡ n) × (owned o now ≡ mine)
Looks v n w = Unit {0}

abbrev pub Restates : List Role → Option Change → List Role → Type 0
Restates (Keeper b ∷ Holder i vs ∷ []) (some (Restated t)) w =
    (w ≡ Keeper (restated b i t) ∷ Holder i t ∷ []) × (vs ≡ kept b i) × (i < length b.slots)
Restates v x w = Unit {0}

abbrev pub Agrees : List Role → Type 0
Agrees (Keeper b ∷ Holder i vs ∷ []) = (vs ≡ kept b i) × (i < length b.slots)
Agrees v = Unit {0}

-- What a session knows: the commits that it has seen, and its own among them. It has copies of the transactions that it has begun and not
-- decided.
pub record SessionHistory : Type 0 where
  pub owner : ℕ
  pub seen : List Commit
  pub mine : List Commit
  pub begun : List Begun

abbrev pub seen_of : List Role → List Commit
seen_of (Client o seen mine ∷ []) = seen
seen_of v = []

abbrev pub mine_of : List Role → List Commit
mine_of (Client o seen mine ∷ []) = mine
mine_of v = []

-- a commit of the session, at ts, of mutations that it had begun under the number
abbrev pub own_commit : SessionHistory → ℕ → ℕ → List CheckedMutation → Commit
own_commit v number ts ms = record { timestamp = ts; number = number; owner = v.owner; mutations = ms }

-- the session keeps mutations too that it has begun under the number
abbrev pub with_begun : SessionHistory → ℕ → List CheckedMutation → SessionHistory
with_begun v number ms = record v { begun = v.begun ++ (record { number = number; mutations = ms }) ∷ [] }

-- the session's commit was added after all that it had seen; commits of others may come between
abbrev pub Extends : SessionHistory → Commit → SessionHistory → Type 0
Extends v c w =
    (w.owner ≡ v.owner) × (w.mine ≡ v.mine ++ c ∷ [])
    × ((between : List Commit) × (w.seen ≡ (v.seen ++ between) ++ c ∷ []) × (owned v.owner between ≡ []))

-- what was seen is longer, and has no more of the session's own
abbrev pub Sees : SessionHistory → SessionHistory → Type 0
Sees v w = (w.owner ≡ v.owner) × (w.mine ≡ v.mine) × IsPrefix v.seen w.seen

-- the session has begun a transaction under the number, and keeps it at this place
pub record IsBegunAt (v : SessionHistory) (number place : ℕ) : Type 0 where
  pub begun : Begun
  pub there : slice_get v.begun place ≡ Some begun
  pub numbered : begun.number ≡ number

-- the session has begun nothing under the number, or what it had begun is decided
abbrev pub HasNotBegun : SessionHistory → ℕ → Type 0
HasNotBegun session number = (place : ℕ) → IsBegunAt session number place → ⊥

-- what the session had begun under the number was committed at ts, as it was handed in, and is kept no more
pub record Decides (v : SessionHistory) (number ts : ℕ) (w : SessionHistory) : Type 0 where
  pub place : ℕ
  pub at : IsBegunAt v number place
  pub extends : Extends v (own_commit v number ts at.begun.mutations) w
  pub left : w.begun ≡ remove v.begun place

-- what the session had begun under the number is kept no more
pub record Forgets (v : SessionHistory) (number : ℕ) (w : SessionHistory) : Type 0 where
  pub place : ℕ
  pub at : IsBegunAt v number place
  pub left : w ≡ record v { begun = remove v.begun place }

abbrev pub Catches : List Role → List Role → Type 0
Catches (Keeper b ∷ Client o seen mine ∷ []) w =
    (w ≡ Keeper b ∷ Client o b.commits mine ∷ []) × IsPrefix seen b.commits × (owned o b.commits ≡ mine)
Catches v w = Unit {0}

-- a slot and its versions
pub record SlotVersions : Type 0 where
  pub number : ℕ
  pub versions : List KeyVersions

-- a session that has seen and made nothing
abbrev pub newcomer : ℕ → SessionHistory
newcomer k = record { owner = k; seen = []; mine = []; begun = [] }

-- sessions of the owners k to k + n, which have seen and made nothing
abbrev pub newcomers : ℕ → ℕ → List SessionHistory
newcomers k zero = []
newcomers k (suc n) = newcomer k ∷ newcomers (suc k) n

-- a database that is opened: its table, its schema and how many sessions there are to be
pub record Named : Type 0 where
  pub table : TableId
  pub schema : List Table
  pub sessions : ℕ

-- what a slot's seat, or the keeper's, says
abbrev pub number_of : List Role → ℕ
number_of (Holder i vs ∷ []) = i
number_of v = 0

abbrev pub versions_of : List Role → List KeyVersions
versions_of (Holder i vs ∷ []) = vs
versions_of v = []

abbrev pub known_at : List (List Role) → Known
known_at ((Keeper b ∷ []) ∷ []) = b
known_at v = nothing_known 0

-- what a step says of a shard
abbrev pub shard_of_change : Change → List KeyVersions
shard_of_change (Restated y) = y
shard_of_change (Grown y) = []
