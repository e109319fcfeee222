-- What the seats of a slot and of the keeper say: once the two agree, and once the slot is restated.
use Rattle.std.proofs.Common.{◌≡◌, ℕ, List, [], ◌∷◌, sym, ap, ◌∙◌}
use Rattle.atomic_table.specs.Table.{Me}
use Rattle.span_shard.specs.KeyVersions.{KeyVersions}
use Rattle.span_board.specs.declared.board.Change.{Change}
use Rattle.span_board.specs.declared.board.Role.{Role}
use Rattle.span_board.specs.declared.board.Role.TheVariants.{Holder, Keeper}
use Rattle.span_board.specs.Known.{kept, restated}
use Rattle.span_board.specs.Rule.{number_of, versions_of, known_at}

-- after a look, the slot's seat still says the slot's number
still_numbered : (me looked : Me Change (List Role)) (i : ℕ) (vs : List KeyVersions) → me ≡ (Holder i vs ∷ [], []) → looked ≡ me → number_of looked.0 ≡ i
still_numbered me looked i vs is same = ap (λ (k : Me Change (List Role)). number_of k.0) (same ∙ is)

-- where the two agree, the slot has what the keeper knows of it
pub slot_known : (me : Me Change (List Role)) (i : ℕ) (vs : List KeyVersions) (views held : List (List Role)) → me ≡ (Holder i vs ∷ [], []) → held ≡ views
    → versions_of me.0 ≡ kept (known_at held) (number_of me.0) → vs ≡ kept (known_at views) i
slot_known me i vs views held is same known =
    sym (ap (λ (k : Me Change (List Role)). versions_of k.0) is)
    ∙ known
    ∙ ap (λ (v : List (List Role)). kept (known_at v) (number_of me.0)) same
    ∙ ap (kept (known_at views)) (ap (λ (k : Me Change (List Role)). number_of k.0) is)

-- once the slot is restated, its seat says what the shard is now
pub holder_restated : (me looked after : Me Change (List Role)) (i : ℕ) (vs ws shard : List KeyVersions) → me ≡ (Holder i vs ∷ [], []) → looked ≡ me
    → after ≡ (Holder (number_of looked.0) ws ∷ [], []) → shard ≡ ws → after ≡ (Holder i shard ∷ [], [])
holder_restated me looked after i vs ws shard is same said back =
    said
    ∙ ap (λ (n : ℕ). (Holder n ws ∷ [], [])) (still_numbered me looked i vs is same)
    ∙ ap (λ (cs : List KeyVersions). (Holder i cs ∷ [], [])) (sym back)

-- the keeper knows it too
pub known_restated : (me looked : Me Change (List Role)) (i : ℕ) (vs ws shard : List KeyVersions) (views held after : List (List Role)) → me ≡ (Holder i vs ∷ [], []) → looked ≡ me
    → held ≡ views → after ≡ (Keeper (restated (known_at held) (number_of looked.0) ws) ∷ []) ∷ [] → ws ≡ shard → after ≡ (Keeper (restated (known_at views) i shard) ∷ []) ∷ []
known_restated me looked i vs ws shard views held after is same still said given =
    said
    ∙ ap (λ (v : List (List Role)). (Keeper (restated (known_at v) (number_of looked.0) ws) ∷ []) ∷ []) still
    ∙ ap (λ (n : ℕ). (Keeper (restated (known_at views) n ws) ∷ []) ∷ []) (still_numbered me looked i vs is same)
    ∙ ap (λ (cs : List KeyVersions). (Keeper (restated (known_at views) i cs) ∷ []) ∷ []) given
