-- The rule annihilate on the words and the file: common.rs, `annihilate`. Level Words.
use Rattle.std.specs.Prelude.{ℕ, Bool, List}
use Rattle.words.specs.Choose.{pick, if_eq}
use Rattle.words.specs.Left.{Left}
use Rattle.layout.specs.Layout.{principal}
use Rattle.graph.specs.Graph.{link_all, remove_node}
use Rattle.node_names.specs.Names.{same_name_words}
use Rattle.tried.specs.Tries.{spent, arity, name}
use Rattle.tried.specs.declared.Tried.{Tried}
use Rattle.tried.specs.declared.Tried.TheVariants.{Passed, Acted, Refused}

-- two nodes have the same name
unfoldable pub alike : List ℕ → List ℕ → ℕ → ℕ → Bool
alike ws file a b = same_name_words file (name ws a) (name ws b)

-- both nodes are to go, each of the one's k ports is linked with the other's; "14 comes before a slot is taken"
unfoldable pub act : List ℕ → ℕ → ℕ → ℕ → Left Tried
act ws a b k =
    pick (spent ws)
    (record { is = Refused 14; ws = ws })
    (record { is = Acted; ws = link_all (remove_node (remove_node ws a) b) (principal a) (principal b) k })

-- two nodes of the same name and with as many ports annihilate
unfoldable pub annihilate : List ℕ → List ℕ → ℕ → ℕ → Left Tried
annihilate ws file a b =
    let pass : Left Tried = record { is = Passed; ws = ws } in
    pick (alike ws file a b) (if_eq (arity ws a) (arity ws b) (act ws a b (arity ws a)) pass) pass
