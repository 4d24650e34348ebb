-- One step of a copy: the key at a place of the sheet, what the source holds there, and what the put comes to.
use Rattle.std.proofs.Common.{◌≡◌, ℕ, suc, ◌+◌, ◌<◌, Bool, true, false, cond, List, [], ◌∷◌, ◌++◌, map, length, get_or, take, drop, is_err, OnOk, OnErr, Some, None, Ok, Err, Option, Result, sym, refl, ap, ◌∙◌, subst, arith}
use Rattle.std.specs.Option.{option_map}
use Rattle.std.proofs.lemmas.List.{length-map, get_or-map, drop_more, take_more}
use Rattle.std.proofs.lemmas.Bool.{cond-true, cond-false}
use Rattle.values.specs.Rank.{rank, version_of}
use Rattle.values.specs.Refusals.{numbered}
use Rattle.values.specs.declared.refusal.Refusal.{Refusal}
use Rattle.values.specs.declared.version.Version.{Version}
use Rattle.stores.specs.Keyed.{ascending}
use Rattle.stores.specs.Provider.{Pair, Cell, Provider, cell_key, keys, cell}
use Rattle.stores.specs.Operations.{room_for, put_answer, put_after, get_answer, pair_means}
use Rattle.stores.specs.Copying.{put_count, put_all, PutEach}
use Rattle.stores.specs.declared.stored.Stored.{Stored}
use Rattle.stores.proofs.KeyedLists.{find_at}

abbrev pub first : Version
first = record { number = 0; seat = 0 }

nowhere : Cell
nowhere = record { key = 0; pair = record { version = 0; value = [] } }

pub told_room : (b : Bool) → ◌≡◌ {A = Result (Unit {0}) ℕ} (Ok tt) (cond b (Ok tt) (Err 15)) → b ≡ true
told_room true e = refl
told_room false e = cc

pub told_full : {n : ℕ} (b : Bool) → ◌≡◌ {A = Result (Unit {0}) ℕ} (Err n) (cond b (Ok tt) (Err 15)) → b ≡ false
told_full true e = cc
told_full false e = refl

-- whether a put found room, from its answer
pub room_of : (c : Cell) (q : Provider) (r : Result (Unit {0}) Refusal) → numbered r ≡ put_answer c q → is_err r ≡ false → room_for c.key q ≡ true
room_of c q (Ok u) told fine = told_room (room_for c.key q) told
room_of c q (Err e) told fine = cc

pub full_of : (c : Cell) (q : Provider) (r : Result (Unit {0}) Refusal) → numbered r ≡ put_answer c q → is_err r ≡ true → room_for c.key q ≡ false
full_of c q (Ok u) told fine = cc
full_of c q (Err e) told fine = told_full (room_for c.key q) told

-- a put that finds no room leaves the provider as it was
pub full_after : (c : Cell) (q : Provider) → room_for c.key q ≡ false → put_after c q ≡ q
full_after c q full = let f : List Cell → Provider = λ cs. record { capacity = q.capacity; cells = cs } in ap f (cond-false (room_for c.key q) _ q.cells full)

-- what a result says where it is no error, and where it is one
pub of_ok : {T E P : Type 0} (r : Result T E) → is_err r ≡ false → OnOk r P → P
of_ok (Ok x) e p = p
of_ok (Err x) e p = cc

pub of_err : {T E P : Type 0} (r : Result T E) → is_err r ≡ true → OnErr r P → P
of_err (Ok x) e p = cc
of_err (Err x) e p = p

-- one put more
put_each_more : {S : Type 0} (puts : S → Cell → S → Type 0) (cs : List Cell) (c : Cell) (before between after : S) → PutEach puts cs before between → puts between c after → PutEach puts (cs ++ c ∷ []) before after
put_each_more puts [] c before between after h put = (after, subst (λ s. puts s c after) h put, refl)
put_each_more puts (d ∷ ds) c before between after h put = (h.0, h.1, put_each_more puts ds c h.0 between after h.2 put)

-- the first i cells of p were put
pub record Copied {T : Type 0} (provider : T → Provider) (puts : T → Cell → T → Type 0) (p : Provider) (i : ℕ) (old now : T) : Type 0 where
  pub counted : i + put_count (drop i p.cells) (provider now) ≡ put_count p.cells (provider old)
  pub after : put_all (drop i p.cells) (provider now) ≡ put_all p.cells (provider old)
  pub once : PutEach puts (take i p.cells) old now

module _ (p : Provider) (listed : List Version) (i : ℕ) (is : listed ≡ map version_of (keys p)) (lt : i < length listed) where
  within : i < length p.cells
  within =
      let a = ap length is in
      let b = length-map (keys p) version_of in
      let d = length-map p.cells cell_key in
      omega arith

  here : Cell
  here = get_or p.cells i nowhere

  rank_here : rank (get_or listed i first) ≡ here.key
  unfolding here
  rank_here =
      let w = within in
      let n = length-map p.cells cell_key in
      let a : get_or listed i first ≡ version_of (get_or (keys p) i 0) = ap (λ vs. get_or vs i first) is ∙ get_or-map version_of (keys p) i 0 first (omega arith) in
      let b : get_or (keys p) i 0 ≡ cell_key (get_or p.cells i nowhere) = get_or-map cell_key p.cells i nowhere 0 w in
      let k = get_or (keys p) i 0 in
      let d : rank (version_of (get_or (keys p) i 0)) ≡ get_or (keys p) i 0 = omega arith in
      ap rank a ∙ (d ∙ b)

  split : drop i p.cells ≡ here ∷ drop (i + 1) p.cells
  unfolding here
  split = drop_more p.cells i nowhere within

  -- the source holds a pair there
  module _ (asc : ascending (keys p) ≡ true) where
    found : get_answer (rank (get_or listed i first)) p ≡ Some here.pair
    unfolding here
    found =
        ap (λ k. get_answer k p) rank_here ∙ ap (option_map (λ (c : Cell). c.pair)) (find_at cell_key p.cells i nowhere within asc)

    pub not_absent : ◌≡◌ {A = Option Pair} None (get_answer (rank (get_or listed i first)) p) → ⊥
    not_absent none = let z = none ∙ found in let o : ◌≡◌ {A = ℕ} 0 1 = cc in omega arith

    module _ {V : Type 0} (code : V → List ℕ) (s : Stored V) (got : Some (pair_means code s) ≡ get_answer (rank (get_or listed i first)) p) (q : Provider) where
      is_here : cell (get_or listed i first) s.version (code s.value) ≡ here
      is_here =
          let a : pair_means code s ≡ here.pair = cc (got ∙ found) in
          let f : ℕ → Cell = λ k. record { key = k; pair = pair_means code s } in
          let h : Pair → Cell = λ x. record { key = here.key; pair = x } in
          ap f rank_here ∙ ap h a

      pub more_count : (t : Provider) (n : ℕ) → room_for (rank (get_or listed i first)) q ≡ true → t ≡ put_after (cell (get_or listed i first) s.version (code s.value)) q → i + put_count (drop i p.cells) q ≡ n → i + 1 + put_count (drop (i + 1) p.cells) t ≡ n
      more_count t n room after inv =
          let b : room_for here.key q ≡ true = ap (λ k. room_for k q) (sym rank_here) ∙ room in
          let a : put_count (drop i p.cells) q ≡ suc (put_count (drop (i + 1) p.cells) (put_after here q)) = ap (λ cs. put_count cs q) split ∙ cond-true (room_for here.key q) _ 0 b in
          let d : put_count (drop (i + 1) p.cells) t ≡ put_count (drop (i + 1) p.cells) (put_after here q) = ap (put_count (drop (i + 1) p.cells)) (after ∙ ap (λ c. put_after c q) is_here) in
          omega arith

      pub more_all : (t u : Provider) → room_for (rank (get_or listed i first)) q ≡ true → t ≡ put_after (cell (get_or listed i first) s.version (code s.value)) q → put_all (drop i p.cells) q ≡ u → put_all (drop (i + 1) p.cells) t ≡ u
      more_all t u room after inv =
          let b : room_for here.key q ≡ true = ap (λ k. room_for k q) (sym rank_here) ∙ room in
          let a : put_all (drop i p.cells) q ≡ put_all (drop (i + 1) p.cells) (put_after here q) = ap (λ cs. put_all cs q) split ∙ cond-true (room_for here.key q) _ q b in
          ap (put_all (drop (i + 1) p.cells)) (after ∙ ap (λ c. put_after c q) is_here) ∙ (sym a ∙ inv)

      pub end_count : (n : ℕ) → room_for (rank (get_or listed i first)) q ≡ false → i + put_count (drop i p.cells) q ≡ n → i ≡ n
      end_count n full inv =
          let b : room_for here.key q ≡ false = ap (λ k. room_for k q) (sym rank_here) ∙ full in
          let a : put_count (drop i p.cells) q ≡ 0 = ap (λ cs. put_count cs q) split ∙ cond-false (room_for here.key q) _ 0 b in
          omega arith

      pub end_all : (t u : Provider) → room_for (rank (get_or listed i first)) q ≡ false → t ≡ put_after (cell (get_or listed i first) s.version (code s.value)) q → put_all (drop i p.cells) q ≡ u → t ≡ u
      end_all t u full after inv =
          let b : room_for here.key q ≡ false = ap (λ k. room_for k q) (sym rank_here) ∙ full in
          let a : put_all (drop i p.cells) q ≡ q = ap (λ cs. put_all cs q) split ∙ cond-false (room_for here.key q) _ q b in
          after ∙ (full_after (cell (get_or listed i first) s.version (code s.value)) q full ∙ (sym a ∙ inv))

      pub more_once : {T : Type 0} (puts : T → Cell → T → Type 0) (old between now : T) → PutEach puts (take i p.cells) old between → puts between (cell (get_or listed i first) s.version (code s.value)) now → PutEach puts (take (i + 1) p.cells) old now
      unfolding here
      more_once puts old between now inv put =
          let m : take (i + 1) p.cells ≡ take i p.cells ++ get_or p.cells i nowhere ∷ [] = take_more p.cells i nowhere within in
          let put' = subst (λ c. puts between c now) is_here put in
          subst (λ cs. PutEach puts cs old now) (sym m) (put_each_more puts (take i p.cells) (get_or p.cells i nowhere) old between now inv put')
