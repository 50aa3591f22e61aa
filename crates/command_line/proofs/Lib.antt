mod WordLists
